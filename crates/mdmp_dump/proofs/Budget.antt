-- What is told where parts are taken, or too many of them are wanted.
use Rattle.std.proofs.Common.{Bool, true, false, nat_lt, if◌then◌else◌, lt-ltb, le-ltb, ◌≡◌, ◌≤◌, ◌<◌, ◌+◌, ◌-◌, ◌∙◌, ℕ, List, ◌∷◌, ◌++◌, length, Option, Some, None, Result, Ok, Err, arith, ap, refl, subst, sym, inl, inr, take, drop, [], ◌==◌}
use Rattle.std.specs.Prelude.{IfErr}
use Rattle.mdmp_source.specs.Source.{SourceState, FetchesAtMost, IsTold, IsToldAmong}
use Rattle.mdmp_source.specs.Range.{IsInside, bytes_at, is_inside}
use Rattle.mdmp_wire.specs.Number.{array_at}
use Rattle.mdmp_source.specs.Store.{IsGood}
use Rattle.std.proofs.Math.Seq.{take-append_seam}
use Rattle.std.proofs.lemmas.Bool.{eqb-true}
use Rattle.std.specs.Prelude.{IsTrue}
use Rattle.mdmp_source.specs.declared.fault.SourceFault.{SourceFault}
use Rattle.mdmp_source.specs.declared.fault.SourceFault.TheVariants.{Failed, ShortRead, Changed}
use Rattle.mdmp_lister.specs.Meter.{SpendsAside}
use Rattle.mdmp_lister.proofs.Fetches.{FetchesAtMost-none}
use Rattle.mdmp_dump.specs.declared.fault.ReadFault.{ReadFault}
use Rattle.mdmp_dump.specs.declared.fault.ReadFault.TheVariants as faults
use Rattle.mdmp_source.specs.declared.location.Extent.{Extent}
use Rattle.mdmp_source.specs.declared.location.Extent.TheVariants.{Empty, Absent, Inside, Outside}
use Rattle.mdmp_source.specs.declared.location.Location.{Location}
use Rattle.mdmp_lister.specs.Format.Item.{range_extent_of}
use Rattle.mdmp_wire.specs.declared.slot.PartName.{PartName}
use Rattle.mdmp_dump.specs.declared.part.Part.TheVariants as parts
use Rattle.mdmp_dump.specs.declared.reader.Reader.{Reader}
use Rattle.mdmp_dump.specs.Part.{part_in}
use Rattle.mdmp_dump.specs.Reading.{AreBytesOf, Fetches, HasBytesAt, IsReadRefusal, TakesSteps, store_fault}
use Rattle.mdmp_dump.specs.Refusal.{Refuse, ReadStep, Take, first_refusal, part_steps}
use Rattle.mdmp_dump.proofs.ItemsRead.{parts_one, parts_unread}
use Rattle.mdmp_dump.proofs.Keeping.{keeps_none, keeps_till, keeps_untaken}
use Rattle.mdmp_dump.proofs.Refusal.{refusal_moved}

-- nothing was fetched, and no fault of the store is told
pub Fetches-none : {T : Type 0} (result : Result T ReadFault) (s : SourceState) → IfErr result (λ fault. store_fault fault ≡ None)
    → IfErr result (IsReadRefusal s.size) → Fetches result s s
Fetches-none (Ok x) s none refusal = record { fetches = record { count = 0; fetches = FetchesAtMost-none s }; told = tt; good = λ file good. tt; refusal = tt }
Fetches-none (Err fault) s none refusal = record { fetches = record { count = 0; fetches = FetchesAtMost-none s }; told = rw none tt; good = λ file good. none; refusal = refusal }

-- a part is taken by how its bytes compare with those that are left
take-by : (left e k offset size : ℕ) (rest : List ReadStep) (last : Option ReadFault) (more : Bool) → nat_lt left size ≡ more
    → first_refusal left 0 (Take e k offset size ∷ rest) last ≡ (if more then Some (faults.PartsTooLarge e k) else first_refusal left size rest last)
unfolding first_refusal
take-by left e k offset size rest last more is =
    let sum : 0 + size ≡ size = omega arith in
    ap (λ n. if nat_lt left n then Some (faults.PartsTooLarge e k) else first_refusal left n rest last) sum
    ∙ ap (λ (b : Bool). if b then Some (faults.PartsTooLarge e k) else first_refusal left size rest last) is

-- so many bytes are more than are left
pub take-refused : (left e k offset size : ℕ) (rest : List ReadStep) (last : Option ReadFault) → left < size
    → first_refusal left 0 (Take e k offset size ∷ rest) last ≡ Some (faults.PartsTooLarge e k)
take-refused left e k offset size rest last more = take-by left e k offset size rest last true (lt-ltb _ _ more)

-- or they are taken
pub take-taken : (left e k offset size : ℕ) (rest : List ReadStep) (last : Option ReadFault) → size ≤ left
    → first_refusal left 0 (Take e k offset size ∷ rest) last ≡ first_refusal (left - size) 0 rest last
take-taken left e k offset size rest last most =
    let all : size + (left - size) ≡ left = omega (arith, most) in
    let none : size + 0 ≡ size = omega arith in
    let moved = refusal_moved size (left - size) 0 rest last in
    let at_left = subst (λ (n : ℕ). first_refusal n (size + 0) rest last ≡ first_refusal (left - size) 0 rest last) all moved in
    take-by left e k offset size rest last false (le-ltb _ _ most) ∙ subst (λ (n : ℕ). first_refusal left n rest last ≡ first_refusal (left - size) 0 rest last) none at_left

-- ---- bytes of the file

-- a fault of the store is told, and none of a good one
pub Fetches-read : {T : Type 0} (n : ℕ) (fault : SourceFault) (old new : SourceState) → FetchesAtMost n old new → IsTold fault old new
    → ((file : List ℕ) → IsGood old.store file → ⊥) → Fetches {T = T} (Err (faults.Source fault)) old new
Fetches-read n (Failed at) old new fetches told good = record { fetches = record { count = n; fetches = fetches }; told = told; good = λ file is. absurd (good file is); refusal = tt }
Fetches-read n (ShortRead at) old new fetches told good = record { fetches = record { count = n; fetches = fetches }; told = told; good = λ file is. absurd (good file is); refusal = tt }
Fetches-read n (Changed at) old new fetches told good = record { fetches = record { count = n; fetches = fetches }; told = absurd told.cause; good = λ file is. absurd (good file is); refusal = tt }

-- a part was not obtained
module _ {S A T : Type 0} (old new : Reader S A) (e k at size : ℕ) (fault : SourceFault) (same : new.lister ≡ record old.lister { source = new.lister.source; counts = new.lister.counts })
    (aside : SpendsAside 1 size old.lister.counts new.lister.counts) (fetches : FetchesAtMost size old.lister.source new.lister.source) (fits : size ≤ old.left) (some : 0 < size)
    (told : IsToldAmong at size fault old.lister.source new.lister.source) (good : (file : List ℕ) → IsGood old.lister.source.store file → ⊥) where
  pub untaken : TakesSteps {T = T} (Take e k at size ∷ []) old (Err (faults.Source fault)) new
  untaken = record {
    same = same;
    fetches = Fetches-read size fault old.lister.source new.lister.source fetches told.told good;
    settles = λ rest last own. absurd (own tt);
    parts = parts_one e k at size old.lister new.lister same aside fetches;
    of_steps = λ is. is;
    keeps = keeps_untaken old new size same aside fetches fits (faults.Source fault) (omega (arith, fits, some)) (inl (inl (told.from, told.before)));
  }

-- bytes inside a file of this size
pub inside_is : (file : List ℕ) (at size : ℕ) (z : ℕ) → IsInside at size z → z ≡ length file → IsTrue (is_inside at size (length file))
inside_is file at size z (inl none) is = rw none refl
inside_is file at size z (inr within) is = search (arith, within, is)

-- all of a list is taken
pub taken-all : (out rest : List ℕ) (n : ℕ) → n ≡ length out → take n (out ++ drop (length out) rest) ≡ out
taken-all out rest n is = rw is (take-append_seam out (drop (length out) rest))

-- bytes of a file, in the words of a source
pub array_is : (file : List ℕ) (at size : ℕ) → array_at file at size ≡ bytes_at file at size
unfolding array_at
array_is file at size = refl

-- ---- parts

refused-first : (fault : ReadFault) (left : ℕ) (rest : List ReadStep) (last : Option ReadFault) → first_refusal left 0 (Refuse fault ∷ rest) last ≡ Some fault
unfolding first_refusal
refused-first fault left rest last = refl

-- bytes outside the file are refused
pub outside-refused : {S A T : Type 0} (old : Reader S A) (e k : ℕ) (part : PartName) (at size : ℕ)
    → TakesSteps {T = T} (part_steps e k part at size Outside) old (Err (faults.PartOutside e k part at size)) old
outside-refused old e k part at size = record {
  same = refl;
  fetches = Fetches-none _ old.lister.source refl tt;
  settles = λ rest last own. refused-first (faults.PartOutside e k part at size) old.left rest last;
  parts = parts_unread _ old.lister;
  of_steps = λ is. is;
  keeps = keeps_till old old (faults.PartOutside e k part at size) tt tt (keeps_none old);
}

-- the bytes that were taken of a location of this class are its part
pub bytes-part : {Z : Type 0} (F : List ℕ) (at : Location) (class : Extent) (bytes : List ℕ) → (class ≡ Absent → ⊥)
    → AreBytesOf F at.rva at.size class bytes → part_in {Z = Z} F at class ≡ Some (parts.Bytes bytes)
bytes-part F at Empty bytes here are = ap (λ (x : List ℕ). Some (parts.Bytes x)) (sym are)
bytes-part F at Absent bytes here are = absurd (here refl)
bytes-part F at Inside bytes here are = ap (λ (x : List ℕ). Some (parts.Bytes x)) are.same
bytes-part F at Outside bytes here are = absurd are

-- no bytes are those of any place
pub none-bytes : (F : List ℕ) (at size : ℕ) (bytes : List ℕ) → size ≡ 0 → bytes ≡ [] → HasBytesAt F at size bytes
none-bytes F at size bytes none is = rw (none, is) (record { len = refl; inside = refl; same = array_is F at 0 })

-- those of a range, which is never absent, are those of its place
pub range-bytes : (F : List ℕ) (offset size : ℕ) (bytes : List ℕ) → AreBytesOf F offset size (range_extent_of offset size (length F)) bytes → HasBytesAt F offset size bytes
range-bytes F offset size bytes are = by (size == 0) (is_inside offset size (length F)) refl are where
  by : (a i : Bool) → (size == 0) ≡ a → AreBytesOf F offset size (if a then Empty else if i then Inside else Outside) bytes → HasBytesAt F offset size bytes
  by true i none are = none-bytes F offset size bytes (eqb-true size 0 none) are
  by false true some are = are
  by false false some are = absurd are
