-- Parts of a text.
use Rattle.std.specs.Prelude.{◌≡◌, ◌≤◌, ◌+◌, ◌-◌, ◌++◌, ℕ, Bool, true, false, List, Option, Some, None, Result, Ok, Err, drop, length, take}
use Rattle.mdmp_source.specs.Count.{raised}
use Rattle.mdmp_source.specs.Range.{IsInside}
use Rattle.mdmp_source.specs.Store.{IsGood}
use Rattle.mdmp_c.specs.declared.fault.PlainFault.{PlainFault}
use Rattle.mdmp_c.specs.Fault.{list_told, told_unless}
use Rattle.mdmp_c.specs.Giving.{told_count}
use Rattle.mdmp_c.specs.Limits.{most_read}
use Rattle.mdmp_c.specs.Table.{IsEndedAt}
use Rattle.mdmp_c.specs.declared.text_part.TextPart.{TextPart}
use Rattle.mdmp_lister.specs.declared.choice.Choice.TheVariants.{All}
use Rattle.mdmp_lister.specs.declared.item.Item.{Item}
use Rattle.mdmp_lister.specs.Format.Listing.{Run, listing}
use Rattle.mdmp_lister.specs.Format.Refusal.{opening_fault}
use Rattle.mdmp_lister.specs.Lister.{ListerState}
use Rattle.mdmp_lister.specs.Memory.{is_within}
use Rattle.mdmp_lister.specs.Sink.{names_of_all}
use Rattle.mdmp_engines.specs.declared.fault.ToolFault.{ToolFault}
use Rattle.mdmp_engines.specs.declared.fault.ToolFault.TheVariants.{List as BadList, Budget, AsideLimit, Memory, Out}
use Rattle.mdmp_engines.specs.ReadThrough.{HasRequested, WhereToldToEnd}
use Rattle.mdmp_engines.specs.Symbols.{IsRecordAmong, symbols_bytes, taken_bytes}
use Rattle.mdmp_engines.specs.Text.{list_text}
use Rattle.mdmp_print.specs.declared.form.LineForm.{LineForm}

-- what is told of F by a list in this form, and what stands behind the first `skip` bytes of its text
pub record IsListPart (form : LineForm) (pdb : Bool) (skip : ℕ) (F : List ℕ) (limit : ℕ) (told : PlainFault) (part : List ℕ) : Type 0 where
  pub told_is : told ≡ told_unless (opening_fault F All) (list_told (listing F All limit).fault)
  pub part_is : part ≡ drop skip (list_text form pdb F limit)

-- of a text that is made piece by piece, what stands behind its first `skip` bytes was counted and, as much as there is room for,
-- kept; so many of the bytes that come next are passed over
pub record IsPartOf (skip room : ℕ) (text : List ℕ) (left space size : ℕ) (kept : List ℕ) : Type 0 where
  pub left_is : left ≡ skip - length text
  pub space_is : space ≡ room
  pub size_is : size ≡ told_count (length (drop skip text))
  pub kept_is : kept ≡ take room (drop skip text)

-- a lister v did not read the CodeView record at this place, since with it it might have read more bytes of such records than the limit;
-- without it, it has not. What it read of them are those of these items
pub record IsAsideEnd (v : ListerState) (aside : Option ℕ) (pdb : Bool) (before : List Item) (offset size : ℕ) : Type 0 where
  pub read : ℕ
  pub kept : is_within aside read ≡ true
  pub passes : is_within aside (read + size) ≡ false
  pub most : read ≤ v.counts.aside.bytes + symbols_bytes pdb v.limit before
  pub inside : IsInside offset size v.source.size
  pub few : size ≤ 24 + v.limit

-- a lister v reached its budget, below what it may read at most, or this limit of what is read of CodeView records, at this fault: that
-- is told of a record of one of these items
abbrev pub EndsTextAt : ListerState → (most : ℕ) → Option ℕ → Bool → Run → ToolFault → Type 0
EndsTextAt v most aside pdb run (Budget offset size) = IsEndedAt v (Some most) offset size
EndsTextAt v most aside pdb run (AsideLimit offset size) = (among : IsRecordAmong pdb v.limit run.items offset size) × IsAsideEnd v aside pdb among.before offset size
EndsTextAt v most aside pdb run fault = ⊥

-- the first bytes of a text were put somewhere, and then a limit was reached so
pub record PutsFirst (IsPut : List ℕ → Type 0) (reached : Type 0) (text : List ℕ) : Type 0 where
  pub limit : reached
  pub given : List ℕ
  pub rest : List ℕ
  pub begins : text ≡ given ++ rest
  pub put : IsPut given

-- the text of a run was put somewhere, up to its fault or none, or up to where a limit was reached; or memory ran out
abbrev pub PutsRun : (List ℕ → Type 0) → (ToolFault → Type 0) → List ℕ → Run → Result (Unit {0}) ToolFault → Type 0
PutsRun IsPut MayEnd text run (Ok x) = (run.fault ≡ None) × IsPut text
PutsRun IsPut MayEnd text run (Err (BadList fault)) = (run.fault ≡ Some fault) × IsPut text
PutsRun IsPut MayEnd text run (Err (Budget offset size)) = PutsFirst IsPut (MayEnd (Budget offset size)) text
PutsRun IsPut MayEnd text run (Err (AsideLimit offset size)) = PutsFirst IsPut (MayEnd (AsideLimit offset size)) text
PutsRun IsPut MayEnd text run (Err Out) = Unit {0}
PutsRun IsPut MayEnd text run (Err Memory) = Unit {0}
PutsRun IsPut MayEnd text run (Err fault) = ⊥

-- the text of what a lister has left, of a file that is known, was put into a part: up to its fault or none, or up to where a limit was
-- reached. Items were given by requests, and of CodeView records no more was read than the limit says
pub record GathersText (text_of : List ℕ → Run → List ℕ) (pdb : Bool) (most : Option ℕ) (old : ListerState) (before : TextPart) (result : Result (Unit {0}) ToolFault) (new : ListerState) (after : TextPart) : Type 0 where
  pub requests : HasRequested old result new
  pub aside : is_within most new.counts.aside.bytes ≡ true
  pub taken : (file : List ℕ) → old.source.store.content ≡ Some file → (left : Run) → old.left ≡ Some left
      → WhereToldToEnd result (raised old.counts.aside.bytes (taken_bytes file pdb old.limit left.items) ≤ new.counts.aside.bytes)
  pub puts : (file : List ℕ) → IsGood old.source.store file → (left : Run) → old.left ≡ Some left → (skip room : ℕ) (given : List ℕ)
      → IsPartOf skip room given before.skip before.room before.size before.kept.items
      → PutsRun (λ text. IsPartOf skip room text after.skip after.room after.size after.kept.items) (EndsTextAt old (most_read file old.choice old.limit (old.counts.names + names_of_all left.items)) most pdb left)
      (given ++ text_of file left) left result

-- a text was put somewhere, and it ends at this fault; or memory ran out
pub data EndsAt (IsPut : List ℕ → Type 0) (text : List ℕ) (fault : ToolFault) (result : Result (Unit {0}) ToolFault) : Type 0 where
  ends_at : result ≡ Err fault → IsPut text → EndsAt IsPut text fault result
  ends_early : result ≡ Err Memory → EndsAt IsPut text fault result
