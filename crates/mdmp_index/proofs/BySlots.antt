-- Memory that is read slot after slot.
use Rattle.std.proofs.Common.{◌≡◌, ◌≤◌, ◌<◌, ◌+◌, ◌-◌, ◌∙◌, ℕ, Bool, true, false, List, None, Some, ap, arith, get_or, inl, inr, is_some, length, sym}
use Rattle.std.specs.Prelude.{All, option_map, slice_index}
use Rattle.std.proofs.lemmas.Bool.{cases_lt, cases_Bool}
use Rattle.std.proofs.lemmas.Bool.Decides.{nat_tests}
use Rattle.mdmp_map.specs.declared.range.Range.{Range}
use Rattle.mdmp_map.specs.RangeLaws.{holds_parts}
use Rattle.mdmp_map.specs.Ranges.{IsWithin, address_end, first_range, holds}
use Rattle.mdmp_index.specs.declared.slot.IndexSlot.{IndexSlot}
use Rattle.mdmp_index.specs.Index.{IsHeldByNone, IsIndexOf, IsInNoSlot, IsSlotOf}
use Rattle.mdmp_index.specs.IndexLaws.{first_range_is, no_first_range}
use Rattle.mdmp_index.specs.Reading.{AreSomeBytesOf, IsByte, IsByteAt, IsSomeByteOf, IsSameAt, ReadsBytes}
use Rattle.mdmp_index.specs.Slots.{covers, no_range, range_at, index_slot, slot_end}
use Rattle.mdmp_index.proofs.Found.{no_more, not_yet}
use Rattle.mdmp_index.proofs.Holding.{cover_parts, covered}

-- the first addresses were read by the first slots
pub record IsReadTo (F : List ℕ) (ranges : List Range) (slots : List IndexSlot) (address done number : ℕ) (bytes : List ℕ) (known : List Bool) : Type 0 where
  pub read : (k : ℕ) → k < done → IsByteAt F ranges address bytes known k
  pub unknown : (k : ℕ) → done ≤ k → get_or known k false ≡ false
  pub zeros : (k : ℕ) → done ≤ k → slice_index bytes k ≡ 0
  pub passed : done < length bytes → (n : ℕ) → n < number → slot_end (index_slot slots n) ≤ address + done
  pub past : done < length bytes → number < length slots → address + done < slot_end (index_slot slots number)

-- ---- one byte

no_address : (a : ℕ) (r : Range) → address_end ≤ a → holds a r ≡ false
no_address a r past = grind (arith, nat_tests)

-- that of an address in no slot
in_no_slot : (F : List ℕ) (ranges : List Range) (slots : List IndexSlot) (a byte : ℕ) (is_known : Bool) → IsIndexOf ranges slots → IsInNoSlot slots a → is_known ≡ false → byte ≡ 0
    → IsByte F ranges a byte is_known
in_no_slot F ranges slots a byte is_known is none unknown zero =
    let held_by_none : IsHeldByNone ranges a = elim (cases_lt a address_end) [
      | inl lt ↦ is.none a lt none
      | inr ge ↦ λ k lt. no_address a (range_at ranges k) ge
    ] in
    let not : first_range ranges a ≡ None = no_first_range ranges a held_by_none in
    record {
      held = unknown ∙ sym (ap is_some not);
      zero = λ same. zero;
      of_file = λ same. absurd (cc (unknown, same));
    }

-- that of an address in a slot
in_slot : (F : List ℕ) (ranges : List Range) (edge : ℕ) (s : IndexSlot) (a byte : ℕ) (is_known : Bool) → IsSlotOf ranges edge s → covers a s ≡ true → is_known ≡ true
    → byte ≡ slice_index F (s.offset + (a - s.start)) → IsByte F ranges a byte is_known
in_slot F ranges edge s a byte is_known of here known is =
    let first = of.first a here in
    let r : Range = range_at ranges s.owner in
    let found : first_range ranges a ≡ Some r = first_range_is ranges a s.owner first in
    let parts = holds_parts a r first.held in
    let from = cover_parts a s here in
    let at_start = of.first s.start (covered s.start s (omega arith) (omega (arith, of.some))) in
    let begins = holds_parts s.start r at_start.held in
    let same : s.offset + (a - s.start) ≡ r.offset + (a - r.start) = omega (arith, of.offset, parts.1, from.0, begins.1) in
    record {
      held = known ∙ sym (ap is_some found);
      zero = λ not. absurd (cc (known, not));
      of_file = λ yes. ap Some (is ∙ ap (slice_index F) same) ∙ sym (ap (option_map (λ (q : Range). slice_index F (q.offset + (a - q.start)))) found);
    }

-- the bytes of a slot are where those of its owner are
pub slot_within : (ranges : List Range) (edge size : ℕ) (s : IndexSlot) → All (IsWithin size) ranges → IsSlotOf ranges edge s → s.offset + s.length ≤ size
slot_within ranges edge size s all of =
    let r : Range = range_at ranges s.owner in
    let last : ℕ = s.start + s.length - 1 in
    let at_start = of.first s.start (covered s.start s (omega arith) (omega (arith, of.some))) in
    let at_end = of.first last (covered last s (omega (arith, of.some)) (omega (arith, of.some))) in
    let begins = holds_parts s.start r at_start.held in
    let ends = holds_parts last r at_end.held in
    let within : IsWithin size r = all s.owner no_range at_start.within in
    omega (arith, of.offset, begins.1, ends.2, within, of.some)

-- ---- one slot more

before_slot : (slots : List IndexSlot) (ranges : List Range) (a number : ℕ) → IsIndexOf ranges slots → number < length slots → ((n : ℕ) → n < number → slot_end (index_slot slots n) ≤ a)
    → a < slot_end (index_slot slots number) → covers a (index_slot slots number) ≡ false → IsInNoSlot slots a
before_slot slots ranges a number is within passed before not n in_n = elim (cases_lt n number) [
  | inl lt ↦ no_more a (index_slot slots n) (passed n lt)
  | inr ge ↦
      elim (cases_lt number n) [
        | inl lt ↦ not_yet a (index_slot slots n) (omega (arith, before, is.apart number n lt in_n))
        | inr le ↦
            let same : n ≡ number = omega (arith, le, ge) in
            rw same not
      ]
]

moved : (F : List ℕ) (ranges : List Range) (address : ℕ) (old new : List ℕ) (known_old known_new : List Bool) (k : ℕ) → IsSameAt old new known_old known_new k
    → IsByteAt F ranges address old known_old k → IsByteAt F ranges address new known_new k
moved F ranges address old new known_old known_new k same is = record {
  held = same.known ∙ is.held;
  zero = λ not. same.byte ∙ is.zero (sym same.known ∙ not);
  of_file = λ yes. ap Some same.byte ∙ is.of_file (sym same.known ∙ yes);
}

-- what a read of one slot says
pub record ReadsSlot (F : List ℕ) (s : IndexSlot) (address done next : ℕ) (old new : List ℕ) (known_old known_new : List Bool) : Type 0 where
  pub ahead : done < next
  pub below : (k : ℕ) → k < done → IsSameAt old new known_old known_new k
  pub behind : (k : ℕ) → next ≤ k → IsSameAt old new known_old known_new k
  pub other : (k : ℕ) → covers (address + k) s ≡ false → IsSameAt old new known_old known_new k
  pub known : s.offset + s.length ≤ length F → (k : ℕ) → done ≤ k → k < next → covers (address + k) s ≡ true → get_or known_new k false ≡ true
  pub bytes : s.offset + s.length ≤ length F → (k : ℕ) → done ≤ k → k < next → covers (address + k) s ≡ true → slice_index new k ≡ slice_index F (s.offset + (address + k - s.start))
  pub before_end : 0 < s.length → address + done < slot_end s → (k : ℕ) → k < next → address + k < slot_end s
  pub end : next < length new → slot_end s ≤ address + next

pub read_more : (F : List ℕ) (ranges : List Range) (slots : List IndexSlot) (address done next number : ℕ) (old new : List ℕ) (known_old known_new : List Bool)
    → IsIndexOf ranges slots → All (IsWithin (length F)) ranges → number < length slots → done < length old → length new ≡ length old
    → ReadsSlot F (index_slot slots number) address done next old new known_old known_new
    → IsReadTo F ranges slots address done number old known_old → IsReadTo F ranges slots address next (number + 1) new known_new
read_more F ranges slots address done next number old new known_old known_new is all within more same reads before =
    let s : IndexSlot = index_slot slots number in
    let of : IsSlotOf ranges address_end s = is.each number within in
    let inside : s.offset + s.length ≤ length F = slot_within ranges address_end (length F) s all of in
    let past : address + done < slot_end s = before.past more within in
    record {
      read = λ k lt. elim (cases_lt k done) [
        | inl early ↦ moved F ranges address old new known_old known_new k (reads.below k early) (before.read k early)
        | inr from ↦
            elim (cases_Bool (covers (address + k) s)) [
              | inl here ↦
                  in_slot F ranges address_end s (address + k) (slice_index new k) (get_or known_new k false) of here (reads.known inside k from lt here) (reads.bytes inside k from lt here)
              | inr other ↦
                  let stays = reads.other k other in
                  in_no_slot F ranges slots (address + k) (slice_index new k) (get_or known_new k false) is
                  (before_slot slots ranges (address + k) number is within (λ n lt_n. omega (arith, before.passed more n lt_n, from)) (reads.before_end of.some past k lt) other)
                  (stays.known ∙ before.unknown k from) (stays.byte ∙ before.zeros k from)
            ]
      ];
      unknown = λ k le. (reads.behind k le).known ∙ before.unknown k (omega (arith, le, reads.ahead));
      zeros = λ k le. (reads.behind k le).byte ∙ before.zeros k (omega (arith, le, reads.ahead));
      passed = λ left n lt. elim (cases_lt n number) [
        | inl early ↦ omega (arith, before.passed more n early, reads.ahead)
        | inr ge ↦
            let last : n ≡ number = omega (arith, ge, lt) in
            rw last (reads.end left)
      ];
      past = λ left in_next.
          let following : IsSlotOf ranges address_end (index_slot slots (number + 1)) = is.each (number + 1) in_next in
          omega (arith, following.some, is.apart number (number + 1) (omega arith) in_next, reads.before_end of.some past (next - 1) (omega (arith, reads.ahead)), reads.ahead);
    }

-- ---- all of them

pub none_read : (F : List ℕ) (ranges : List Range) (slots : List IndexSlot) (address number : ℕ) (bytes : List ℕ) (known : List Bool)
    → ((n : ℕ) → n < number → slot_end (index_slot slots n) ≤ address) → (number < length slots → address < slot_end (index_slot slots number))
    → ((k : ℕ) → get_or known k false ≡ false) → ((k : ℕ) → slice_index bytes k ≡ 0) → IsReadTo F ranges slots address 0 number bytes known
none_read F ranges slots address number bytes known passed past unknown zeros = record {
  read = λ k lt. absurd (omega (arith, lt));
  unknown = λ k le. unknown k;
  zeros = λ k le. zeros k;
  passed = λ some n lt. omega (arith, passed n lt);
  past = λ some lt. omega (arith, past lt);
}

pub all_read : (F : List ℕ) (ranges : List Range) (slots : List IndexSlot) (address done number : ℕ) (bytes : List ℕ) (known : List Bool) → IsIndexOf ranges slots
    → (done < length bytes → length slots ≤ number) → IsReadTo F ranges slots address done number bytes known → ReadsBytes F ranges address bytes known
all_read F ranges slots address done number bytes known is over read k within = elim (cases_lt k done) [
  | inl lt ↦ read.read k lt
  | inr ge ↦
      let more : done < length bytes = omega (arith, ge, within) in
      in_no_slot F ranges slots (address + k) (slice_index bytes k) (get_or known k false) is
      (λ n in_n. no_more (address + k) (index_slot slots n) (omega (arith, read.passed more n (omega (arith, in_n, over more)), ge)))
      (read.unknown k ge) (read.zeros k ge)
]

-- ---- bytes of the file

moved_of_file : (F old new : List ℕ) (known_old known_new : List Bool) (k : ℕ) → IsSameAt old new known_old known_new k → IsSomeByteOf F (slice_index old k) (get_or known_old k false)
    → IsSomeByteOf F (slice_index new k) (get_or known_new k false)
moved_of_file F old new known_old known_new k same is = record {
  of_file = λ yes.
      let from = is.of_file (sym same.known ∙ yes) in
      (from.0, from.1, same.byte ∙ from.2);
  zero = λ not. same.byte ∙ is.zero (sym same.known ∙ not);
}

pub copied_of_file : (F old new : List ℕ) (known_old known_new : List Bool) (offset first end : ℕ) → ((k : ℕ) → first ≤ k → k < end → get_or known_new k false ≡ true)
    → ((k : ℕ) → first ≤ k → k < end → slice_index new k ≡ slice_index F (offset + (k - first))) → offset + (end - first) ≤ length F → length new ≡ length old
    → ((k : ℕ) → k < first → IsSameAt old new known_old known_new k) → ((k : ℕ) → end ≤ k → IsSameAt old new known_old known_new k) → AreSomeBytesOf F old known_old → AreSomeBytesOf F new known_new
copied_of_file F old new known_old known_new offset first end known bytes inside same below behind are k within =
    let before : IsSomeByteOf F (slice_index old k) (get_or known_old k false) = are k (omega (arith, within, same)) in
    elim (cases_lt k first) [
      | inl lt ↦ moved_of_file F old new known_old known_new k (below k lt) before
      | inr from ↦
          elim (cases_lt k end) [
            | inl to ↦
                record {
                  of_file = λ yes. (offset + (k - first), omega (arith, from, to, inside), bytes k from to);
                  zero = λ not. absurd (let yes = known k from to in cc (yes, not));
                }
            | inr past ↦ moved_of_file F old new known_old known_new k (behind k past) before
          ]
    ]
