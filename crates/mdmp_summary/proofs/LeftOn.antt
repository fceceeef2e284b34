-- What is left in a look, one item further.
use Rattle.std.proofs.Common.{◌≡◌, ◌+◌, ◌-◌, ◌∙◌, ℕ, List, Option, Some, None, Ok, IfSome, ap, arith, refl, slice_get, sym}
use Rattle.std.specs.Option.{option_map}
use Rattle.mdmp_wire.specs.declared.entry.Entry.{Entry}
use Rattle.mdmp_lister.specs.declared.choice.Choice.TheVariants.{All}
use Rattle.mdmp_lister.specs.declared.item.Item.{Item}
use Rattle.mdmp_lister.specs.declared.item.StreamItem.{StreamItem}
use Rattle.mdmp_lister.specs.declared.kind.StreamKind.{StreamKind}
use Rattle.mdmp_lister.specs.declared.meter.Amount.{Amount}
use Rattle.mdmp_lister.specs.declared.position.Position.TheVariants.{Begun, Sought, Within}
use Rattle.mdmp_lister.specs.Format.Item.{plain}
use Rattle.mdmp_lister.specs.Format.Kind.{kind_of}
use Rattle.mdmp_lister.specs.Format.Listing.{Numbered, Run, entry_body, entry_of, joined, listing_from, nothing, stream_item}
use Rattle.mdmp_lister.specs.Format.Summary.{Summary, entry_begun, number_behind, summary_of}
use Rattle.mdmp_lister.specs.Lister.{left_after, tail}
use Rattle.mdmp_lister.specs.Walk.Positions.{position_by}
use Rattle.mdmp_lister.specs.Walker.{GivesEntry, WalkerLeaves, WalkerState, begins}
use Rattle.mdmp_lister.proofs.Summary.{summary_of-plain}
use Rattle.mdmp_summary.specs.Skipping.{HasBegun, IsBetween, begun_kind, kind_begun, left_begun, next_in}
use Rattle.mdmp_summary.specs.Spending.{ReadsOutside, next_number}
use Rattle.mdmp_summary.proofs.Left.{AreRecords, FirstOf, FromEntry, body_records, first_of_part, from_entry, of_part, of_rest, none, some}
use Rattle.mdmp_summary.proofs.Paying.{unsought}

-- of a known file some records of the entry that was begun last are left, maybe with its error, and then the entries after it
pub record LeavesEntries (F : List ℕ) (w : WalkerState) : Type 0 where
  pub part : Run
  pub records : AreRecords part.items
  pub left : w.list.left ≡ Some (joined part (listing_from F w.list.choice w.list.limit (next_in w)))

abbrev pub LeftBy : Option (List ℕ) → WalkerState → Type 0
LeftBy None w = w.list.left ≡ None
LeftBy (Some F) w = LeavesEntries F w

-- where nothing is left of an entry
pub left_between : (content : Option (List ℕ)) (w : WalkerState) → w.list.source.store.content ≡ content → IsBetween w → LeftBy content w
left_between None w unknown between = between ∙ ap (option_map (λ file. listing_from file w.list.choice w.list.limit (next_in w))) unknown
left_between (Some F) w known between = record {
  part = nothing;
  records = tt;
  left = between ∙ ap (option_map (λ file. listing_from file w.list.choice w.list.limit (next_in w))) known;
}

-- the same is left
pub left_same : (content : Option (List ℕ)) (v w : WalkerState) → w.list.left ≡ v.list.left → w.list.choice ≡ v.list.choice → w.list.limit ≡ v.list.limit → next_in w ≡ next_in v → LeftBy content v → LeftBy content w
left_same None v w left choice limit next so_far = left ∙ so_far
left_same (Some F) v w left choice limit next so_far = record {
  part = so_far.part;
  records = so_far.records;
  left = left ∙ so_far.left ∙ (λ i. Some (joined so_far.part (listing_from F (sym choice i) (sym limit i) (sym next i))));
}

-- what is read outside the listing changes none of it
module _ (most : Amount) (mid new : WalkerState) (reads : ReadsOutside most mid new) where
  pub left_outside : (content : Option (List ℕ)) → LeftBy content mid → LeftBy content new
  left_outside content so_far = left_same content mid new (λ i. (reads.same i).list.left) (λ i. (reads.same i).list.choice) (λ i. (reads.same i).list.limit) (λ i. next_in (reads.same i)) so_far

  begun_outside : (kind : StreamKind) → HasBegun mid kind → HasBegun new kind
  begun_outside kind has = record {
    begun = (λ i. begins (reads.same i).position) ∙ has.begun;
    kind_is = (λ i. kind_of (reads.same i).list.current.stream_type) ∙ has.kind_is;
    left = (λ i. (reads.same i).list.left) ∙ has.left ∙ (λ i. option_map (left_begun (sym reads.same i).list) (sym reads.fetches.same_content i));
  }

  pub if_begun_outside : (o : Option StreamKind) → IfSome o (HasBegun mid) → IfSome o (HasBegun new)
  if_begun_outside None has = tt
  if_begun_outside (Some kind) has = begun_outside kind has

-- ---- an item more

-- what is left after an item, which may be a Stream item
record LeavesNext (F : List ℕ) (x : Item) (new : WalkerState) : Type 0 where
  entries : LeavesEntries F new
  begun : (s : StreamItem) → (summary_of x).stream ≡ Some s → new.list.left ≡ Some (left_begun new.list F)

module _ (v new : WalkerState) (x : Item) (all : v.list.choice ≡ All) (leaves : WalkerLeaves v (Ok (Some x)) new)
    (sought : (number : ℕ) → v.position ≡ Sought number → GivesEntry number v.list.entries (Ok (Some x))) where
  module _ (F : List ℕ) where
    after_record : (part : Run) → (summary_of x).stream ≡ None → AreRecords part.items → new.list.left ≡ Some (joined part (listing_from F v.list.choice v.list.limit (next_in v))) → LeavesEntries F new
    after_record part no_stream are left =
        let same = leaves.list.same in
        let passed : new.list.passed ≡ v.list.passed = leaves.list.places.passed ∙ ap (λ o. number_behind o v.list.passed) no_stream in
        let position : new.position ≡ Within = leaves.position ∙ ap position_by no_stream in
        let next : next_in new ≡ next_in v = ap (λ p. next_number p new.list.passed) position ∙ passed ∙ sym (unsought v.list.entries x v.position v.list.passed no_stream sought) in
        record { part = part; records = are; left = left ∙ (λ i. Some (joined part (listing_from F (sym same.choice i) (sym same.limit i) (sym next i)))) }

    after_stream : (at : ℕ) (e : Entry) → (summary_of x).stream ≡ Some (record { entry = at; stream_type = e.stream_type; location = e.location })
        → new.list.left ≡ Some (joined (entry_body F v.list.limit (record { number = at; entry = e })) (listing_from F All v.list.limit (at + 1))) → LeavesNext F x new
    after_stream at e is left =
        let same = leaves.list.same in
        let passed : new.list.passed ≡ at + 1 = leaves.list.places.passed ∙ ap (λ o. number_behind o v.list.passed) is in
        let number : new.list.passed - 1 ≡ at = omega (arith, passed) in
        let current : new.list.current ≡ e = leaves.list.places.current ∙ ap (λ o. entry_begun o v.list.current) is in
        let position : new.position ≡ Begun = leaves.position ∙ ap position_by is in
        let next : next_in new ≡ new.list.passed = ap (λ p. next_number p new.list.passed) position in
        let choice : new.list.choice ≡ All = same.choice ∙ all in
        let body : Numbered = record { number = new.list.passed - 1; entry = new.list.current } in
        let begun : new.list.left ≡ Some (left_begun new.list F) =
        left ∙ (λ i. Some (joined (entry_body F (sym same.limit i) (record { number = sym number i; entry = sym current i })) (listing_from F (sym choice i) (sym same.limit i) (sym passed i)))) in
        record {
          entries = record {
            part = entry_body F new.list.limit body;
            records = body_records F new.list.limit body;
            left = begun ∙ (λ i. Some (joined (entry_body F new.list.limit body) (listing_from F new.list.choice new.list.limit (sym next i))));
          };
          begun = λ s stream. begun;
        }

    stream_of : (y : Item) → y ≡ plain x → (summary_of x).stream ≡ (summary_of y).stream
    stream_of y same = sym (ap (λ (s : Summary). s.stream) (summary_of-plain x)) ∙ ap (λ (y : Item). (summary_of y).stream) (sym same)

    after_entries : (run : Run) → FromEntry F v.list.limit (next_in v) run → slice_get run.items 0 ≡ Some (plain x) → new.list.left ≡ Some (tail run) → LeavesNext F x new
    after_entries run (none is) first left =
        let never : slice_get nothing.items 0 ≡ Some (plain x) = ap (λ (r : Run). slice_get r.items 0) (sym is) ∙ first in
        absurd (cc)
    after_entries run (some is) first left =
        let y : Item = stream_item (record { number = next_in v; entry = entry_of F (next_in v) }) in
        let one : Some y ≡ Some (plain x) = ap (λ (r : Run). slice_get r.items 0) (sym is) ∙ first in
        let same : y ≡ plain x = cc one in
        after_stream (next_in v) (entry_of F (next_in v)) (stream_of y same) (left ∙ ap (λ (r : Run). Some (tail r)) is)

    after_first : (so_far : LeavesEntries F v) → FirstOf so_far.part.items so_far.part.fault (listing_from F v.list.choice v.list.limit (next_in v)) (plain x)
        → new.list.left ≡ Some (tail (joined so_far.part (listing_from F v.list.choice v.list.limit (next_in v)))) → LeavesNext F x new
    after_first so_far (of_part part is are same) left =
        let no_stream : (summary_of x).stream ≡ None = sym (ap (λ (s : Summary). s.stream) (summary_of-plain x)) ∙ is in
        record { entries = after_record part no_stream are (left ∙ ap Some same); begun = λ s stream. absurd (cc) }
    after_first so_far (of_rest same first) left =
        let at = next_in v in
        let all_of : listing_from F v.list.choice v.list.limit at ≡ listing_from F All v.list.limit at = λ i. listing_from F (all i) v.list.limit at in
        after_entries (listing_from F All v.list.limit at) (from_entry F v.list.limit at) (ap (λ (r : Run). slice_get r.items 0) (sym all_of) ∙ first)
        (left ∙ ap (λ (r : Run). Some (tail r)) (same ∙ all_of))

    after_next : LeavesEntries F v → ((left : Run) → v.list.left ≡ Some left → slice_get left.items 0 ≡ Some (plain x)) → LeavesNext F x new
    after_next so_far gives =
        after_first so_far (first_of_part so_far.part.items so_far.part.fault _ (plain x) so_far.records (gives _ so_far.left))
        (leaves.list.stands.left ∙ ap (option_map (left_after (Ok (Some x)))) so_far.left)

  module _ (gives : (left : Run) → v.list.left ≡ Some left → slice_get left.items 0 ≡ Some (plain x)) where
    pub left_next : (content : Option (List ℕ)) → LeftBy content v → LeftBy content new
    left_next None so_far = leaves.list.stands.left ∙ ap (option_map (left_after (Ok (Some x)))) so_far
    left_next (Some F) so_far = (after_next F so_far gives).entries

    left_of_stream : (content : Option (List ℕ)) → LeftBy content v → (s : StreamItem) → (summary_of x).stream ≡ Some s → new.list.left ≡ option_map (left_begun new.list) content
    left_of_stream None so_far s is = leaves.list.stands.left ∙ ap (option_map (left_after (Ok (Some x)))) so_far
    left_of_stream (Some F) so_far s is = (after_next F so_far gives).begun s is

    module _ (content : Option (List ℕ)) (known : new.list.source.store.content ≡ content) (so_far : LeftBy content v) where
      has_begun : (kind : StreamKind) (o : Option StreamItem) → (summary_of x).stream ≡ o → kind_begun o ≡ Some kind → HasBegun new kind
      has_begun kind None is of = absurd (cc)
      has_begun kind (Some s) is of = record {
        begun = ap begins (leaves.position ∙ ap position_by is);
        kind_is = ap (λ (e : Entry). kind_of e.stream_type) (leaves.list.places.current ∙ ap (λ o. entry_begun o v.list.current) is) ∙ of;
        left = left_of_stream content so_far s is ∙ ap (option_map (left_begun new.list)) (sym known);
      }

      pub if_begun : (o : Option StreamKind) → o ≡ begun_kind x → IfSome o (HasBegun new)
      if_begun None is = tt
      if_begun (Some kind) is = has_begun kind (summary_of x).stream refl (sym is)
