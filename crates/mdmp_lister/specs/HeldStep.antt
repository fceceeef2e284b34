-- Items whose records stand at the front of a window.
use Rattle.std.specs.Prelude.{◌≡◌, ◌≤◌, ℕ, List, [], ◌∷◌, Option, Some, None, Result, Ok, Err, IfOk, IfSome, filter_map, length}
use Rattle.mdmp_map.specs.declared.range.Range.{Range}
use Rattle.mdmp_lister.specs.declared.held_step.HeldStep.{HeldStep}
use Rattle.mdmp_lister.specs.declared.held_step.HeldStep.TheVariants as held
use Rattle.mdmp_lister.specs.declared.item.RangeItem.{RangeItem}
use Rattle.mdmp_lister.specs.declared.step.Step.{Step}
use Rattle.mdmp_lister.specs.declared.step.Step.TheVariants as step
use Rattle.mdmp_lister.specs.Format.Item.{record_at}
use Rattle.mdmp_lister.specs.Format.Kind.{record_size}
use Rattle.mdmp_lister.specs.Format.Ranges.{IsRangeIn, range_kept}
use Rattle.mdmp_lister.specs.Format.Summary.{summary_of}
use Rattle.mdmp_lister.specs.Step.{step_item}

-- the step that is held so: its record is the one of the first bytes
abbrev pub step_told : List ℕ → HeldStep → Step
step_told bytes (held.Stream x) = step.Stream x
step_told bytes (held.Record r) = step.Record (record { entry = r.entry; index = r.index; fields = record_at r.kind bytes 0; offset = r.offset; name = r.name })

abbrev pub given_told : List ℕ → Option HeldStep → Option Step
given_told bytes (Some h) = Some (step_told bytes h)
given_told bytes None = None

abbrev pub answer_told : {E : Type 0} → List ℕ → Result (Option HeldStep) E → Result (Option Step) E
answer_told bytes (Ok given) = Ok (given_told bytes given)
answer_told bytes (Err fault) = Err fault

-- the same of an answer that is a step
abbrev pub read_told : {E : Type 0} → List ℕ → Result HeldStep E → Result Step E
read_told bytes (Ok h) = Ok (step_told bytes h)
read_told bytes (Err fault) = Err fault

-- all bytes of its record are there
abbrev pub HasItsBytes : List ℕ → HeldStep → Type 0
HasItsBytes bytes (held.Stream x) = Unit {0}
HasItsBytes bytes (held.Record r) = record_size r.kind ≤ length bytes

abbrev pub AnswerHasItsBytes : {E : Type 0} → List ℕ → Result (Option HeldStep) E → Type 0
AnswerHasItsBytes bytes answer = IfOk answer (λ given. IfSome given (HasItsBytes bytes))

-- the range that a step tells, in a file of z bytes, or none where it tells another item
pub record TellsRange (z : ℕ) (s : Step) (given : Option RangeItem) : Type 0 where
  pub told : (buffer : List ℕ) → (summary_of (step_item z buffer s)).range ≡ given
  -- a range that is said to lie inside the file does
  pub placed : IfSome given (IsRangeIn z)

-- what a map keeps of it
abbrev pub ranges_told : Option RangeItem → List Range
ranges_told given = filter_map range_kept (given ∷ [])
