-- The streams of some entries, read one behind the other.
use Rattle.std.proofs.Common.{◌≡◌, ◌∙◌, ◌+◌, ◌<◌, ℕ, List, [], ◌∷◌, ◌++◌, append_assoc, Option, Some, None, Result, Ok, Err, ap, arith, refl, subst, sym}
use Rattle.std.proofs.lemmas.List.{append-nil}
use Rattle.std.specs.Prelude.{IfOk}
use Rattle.mdmp_source.specs.Source.{FetchesSome}
use Rattle.mdmp_lister.specs.declared.item.StreamItem.{StreamItem}
use Rattle.mdmp_lister.specs.Format.Listing.{Numbered, Run, nothing}
use Rattle.mdmp_lister.specs.Lister.{ListerState, tail}
use Rattle.mdmp_dump.specs.declared.dump.Stream.{Stream}
use Rattle.mdmp_dump.specs.declared.fault.ReadFault.{ReadFault}
use Rattle.mdmp_dump.specs.declared.reader.Reader.{Reader}
use Rattle.mdmp_dump.specs.ItemsRead.{ReadsInTurn}
use Rattle.mdmp_dump.specs.Keeping.{KeepsOn, KeepsTill}
use Rattle.mdmp_lister.specs.declared.item.Item.TheVariants as items
use Rattle.mdmp_dump.specs.LaysOut.{AreStreams, NamesStream}
use Rattle.mdmp_dump.specs.Left.{is_item_of, left_from, run_of}
use Rattle.mdmp_dump.specs.Reading.{IsEntryRead, IsGoing, IsLeftBehind, IsNextStream, IsOfType, IsOneLeft, IsOneStream, IsWanting, NoRowFirst, Settles, owed, steps_of}
use Rattle.mdmp_dump.specs.Refusal.{first_refusal, stream_steps}
use Rattle.mdmp_dump.proofs.Keeping.{asked_part, keeps_err, one_left_before, told_part}
use Rattle.mdmp_dump.proofs.Left.{first_given, no_row_first, none_given}
use Rattle.mdmp_dump.proofs.More.{streams_more}

-- the listing goes on behind a Stream item
abbrev pub IsAwaited : Option StreamItem → ListerState → Type 0
IsAwaited None lister = Unit {0}
IsAwaited (Some item) lister = (lister.stop ≡ None) × IsOfType lister item.stream_type

-- and was left before it was given
abbrev pub IsOneGiven : Option StreamItem → ListerState → Type 0
IsOneGiven None lister = Unit {0}
IsOneGiven (Some item) lister = IsOneLeft lister (items.Stream item)

-- a number that falls with each entry
abbrev pub entries_left : Option StreamItem → ListerState → ℕ
entries_left None lister = 0
entries_left (Some item) lister = lister.work + 1

-- the first of some entries were read, and the others are left, with what they ask
pub record AreRead {S A Z : Type 0} (F : List ℕ) (limit : ℕ) (xs : List Numbered) (old : Reader S A) (streams : List (Stream Z)) (next : Option StreamItem) (new : Reader S A) : Type 0 where
  pub done : List Numbered
  pub rest : List Numbered
  pub all : xs ≡ done ++ rest
  pub are : AreStreams F done streams
  pub behind : IsLeftBehind F limit rest next new.lister.left
  pub settles : owed F old.left None old.lister.left ≡ owed F new.left next new.lister.left

-- some streams were read
pub record StreamsRead {S A Z : Type 0} (old : Reader S A) (streams : List (Stream Z)) (next : Option StreamItem) (new : Reader S A) : Type 0 where
  pub fetches : FetchesSome old.lister.source new.lister.source
  pub keeps : KeepsOn old new
  pub reads : ReadsInTurn {T = Unit {0}} [] (Ok tt) (steps_of old.lister.source.size next) old.lister new.lister
  pub awaited : IsAwaited next new.lister
  pub given : IsOneGiven next old.lister
  pub of_file : (F : List ℕ) (limit : ℕ) (xs : List Numbered) → old.lister.source.store.content ≡ Some F → old.lister.left ≡ Some (run_of F limit xs)
      → AreRead F limit xs old streams next new

pub awaited_going : (old : ListerState) (next : Option StreamItem) (new : ListerState) → IsGoing old next new → IsAwaited next new
awaited_going old None new going = tt
awaited_going old (Some item) new going = (going.0.0, going.1)

pub given_going : (old : ListerState) (next : Option StreamItem) (new : ListerState) → IsGoing old next new → IsOneGiven next old
given_going old None new going = tt
given_going old (Some item) new going = going.2

pub given_before : {S A : Type 0} (old mid new : Reader S A) (next : Option StreamItem) → KeepsOn old mid → IsGoing mid.lister next new.lister → IsOneGiven next old.lister
given_before old mid new None on going = tt
given_before old mid new (Some item) on going = one_left_before old.lister mid.lister (items.Stream item) on.left going.2

-- its bytes were not taken: its Stream item asks for the one at which reading stopped
pub stream_untaken : {S A : Type 0} (old mid new : Reader S A) (item : StreamItem) → KeepsOn old mid → IsOneGiven (Some item) old.lister → (fault : ReadFault)
    → KeepsTill (stream_steps mid.lister.source.size item.entry item.stream_type item.location) fault mid new → KeepsTill [] fault old new
stream_untaken old mid new item on given fault till =
    let steps = stream_steps mid.lister.source.size item.entry item.stream_type item.location in
    told_part steps [] fault old new
    (asked_part steps fault old.lister (λ run left.
    let place = given run left in
    (place.0, items.Stream item, (place.1, ap (λ (z : ℕ). stream_steps z item.entry item.stream_type item.location) (sym on.same.size)))))
    (keeps_err old mid new on fault till)

pub fewer_left : (old : ListerState) (item : StreamItem) (next : Option StreamItem) (new : ListerState) → IsGoing old next new → entries_left next new < entries_left (Some item) old
fewer_left old item None new going = omega arith
fewer_left old item (Some other) new going = omega (arith, going.0.1)

-- ---- the first entry

first_behind : (F : List ℕ) (limit : ℕ) (xs : List Numbered) (next : Option StreamItem) (left : Option Run) → IsNextStream (run_of F limit xs) next left → IsLeftBehind F limit xs next left
first_behind F limit xs None left given = (run_of F limit xs, (given.1, (none_given F limit xs given.0, given.0)))
first_behind F limit xs (Some item) left given = (tail (run_of F limit xs), (given.1, first_given F limit xs item given.0))

-- a request for the first Stream item is answered
module _ {S A : Type 0} (old new : Reader S A) (answer : Result (Option StreamItem) ReadFault)
    (gives : (file : List ℕ) (run : Run) → old.lister.source.store.content ≡ Some file → old.lister.left ≡ Some run → NoRowFirst run
    → IfOk answer (λ next. IsNextStream run next new.lister.left)
    × Settles (owed file old.left None old.lister.left) answer (λ next. owed file new.left next new.lister.left)) where
  pub none_read : {Z : Type 0} (next : Option StreamItem) → answer ≡ Ok next → (F : List ℕ) (limit : ℕ) (xs : List Numbered)
      → old.lister.source.store.content ≡ Some F → old.lister.left ≡ Some (run_of F limit xs) → AreRead {Z = Z} F limit xs old [] next new
  none_read next is F limit xs known left =
      let given = rw is at (gives F (run_of F limit xs) known left (no_row_first F limit xs)) in
      record { done = []; rest = xs; all = refl; are = tt; behind = first_behind F limit xs next new.lister.left given.0; settles = given.1 }

  pub none_refused : (fault : ReadFault) → answer ≡ Err fault → (F : List ℕ) (limit : ℕ) (xs : List Numbered)
      → old.lister.source.store.content ≡ Some F → old.lister.left ≡ Some (run_of F limit xs) → (IsWanting fault → ⊥) → owed F old.left None old.lister.left ≡ Some fault
  none_refused fault is F limit xs known left = (rw is at (gives F (run_of F limit xs) known left (no_row_first F limit xs))).1

-- ---- one more entry

module _ {S A Z : Type 0} (old mid new : Reader S A) (streams : List (Stream Z)) (item : StreamItem) (so_far : StreamsRead old streams (Some item) mid) where
  -- what reading it answers
  abbrev IsRead : Result (Option (Stream Z) × Option StreamItem) ReadFault → Type 0
  IsRead result = (F : List ℕ) (limit : ℕ) (x : Numbered) (xs : List Numbered) → mid.lister.source.store.content ≡ Some F
      → mid.lister.left ≡ Some (left_from F limit x 0 xs) → item ≡ is_item_of x → IsOfType mid.lister item.stream_type
      → IsEntryRead F limit xs (IsOneStream F x.entry) (owed F mid.left (Some item) mid.lister.left) result new

  module _ (F : List ℕ) (limit : ℕ) (xs : List Numbered) (known : old.lister.source.store.content ≡ Some F) (left : old.lister.left ≡ Some (run_of F limit xs)) where
    abbrev so_read : AreRead F limit xs old streams (Some item) mid
    so_read = so_far.of_file F limit xs known left

    entry_read : (result : Result (Option (Stream Z) × Option StreamItem) ReadFault) → IsRead result
        → IsEntryRead F limit so_read.behind.1.1.1 (IsOneStream F so_read.behind.1.1.0.entry) (owed F mid.left (Some item) mid.lister.left) result new
    entry_read result of_file =
        let first = so_read.behind.1.1.2 in
        of_file F limit so_read.behind.1.1.0 so_read.behind.1.1.1 (so_far.fetches.fetches.same_content ∙ known) (so_read.behind.1.0 ∙ ap Some first.1.1) first.1.0 so_far.awaited.1

    pub more_read : (stream : Option (Stream Z)) (one : Stream Z) (next : Option StreamItem) → IsRead (Ok (stream, next)) → stream ≡ Some one
        → AreRead F limit xs old (streams ++ one ∷ []) next new
    more_read stream one next of_file is =
        let given = entry_read (Ok (stream, next)) of_file in
        let same : given.value.0.0 ≡ one = let has = given.value.0.1.0 in cc in
        record {
          done = so_read.done ++ so_read.behind.1.1.0 ∷ [];
          rest = so_read.behind.1.1.1;
          all = so_read.all ∙ ap (λ (ys : List Numbered). so_read.done ++ ys) so_read.behind.1.1.2.0 ∙ sym (append_assoc so_read.done (so_read.behind.1.1.0 ∷ []) so_read.behind.1.1.1);
          are = streams_more F so_read.done streams so_read.behind.1.1.0 one so_read.are (subst (λ (s : Stream Z). NamesStream F so_read.behind.1.1.0.entry s) same given.value.0.1.1);
          behind = given.value.1;
          settles = so_read.settles ∙ given.settles;
        }

    -- an entry names a stream
    pub never_none : (stream : Option (Stream Z)) (next : Option StreamItem) → IsRead (Ok (stream, next)) → stream ≡ None → ⊥
    never_none stream next of_file is = let has = (entry_read (Ok (stream, next)) of_file).value.0.1.0 in cc

    pub more_refused : (fault : ReadFault) → IsRead (Err fault) → (IsWanting fault → ⊥) → owed F old.left None old.lister.left ≡ Some fault
    more_refused fault of_file not = so_read.settles ∙ (entry_read (Err fault) of_file).settles not

-- ---- the end

none_owed : (F : List ℕ) (left : ℕ) → owed F left None (Some nothing) ≡ None
unfolding first_refusal
none_owed F left = refl

module _ {S A Z : Type 0} (F : List ℕ) (limit : ℕ) (xs : List Numbered) (old : Reader S A) (streams : List (Stream Z)) (new : Reader S A)
    (read : AreRead F limit xs old streams None new) where
  pub all_read : AreStreams F xs streams
  all_read =
      let all : xs ≡ read.done = read.all ∙ ap (λ (ys : List Numbered). read.done ++ ys) read.behind.1.1.0 ∙ append-nil read.done in
      rw all read.are

  pub none_behind : new.lister.left ≡ Some nothing
  none_behind = read.behind.1.0 ∙ ap Some read.behind.1.1.1

  pub none_refused_behind : owed F old.left None old.lister.left ≡ None
  none_refused_behind =
      read.settles ∙ ap (owed F new.left None) none_behind ∙ none_owed F new.left
