-- How many ranges a walk may still give.
use Rattle.std.specs.Prelude.{◌≡◌, ◌≤◌, ◌+◌, ◌-◌, ℕ, List, Option, Some, None, Result, Ok, Err, if◌then◌else◌}
use Rattle.mdmp_wire.specs.declared.entry.Entry.{Entry}
use Rattle.mdmp_lister.specs.declared.fault.ListFault.{ListFault}
use Rattle.mdmp_lister.specs.declared.kind.StreamKind.{StreamKind}
use Rattle.mdmp_lister.specs.declared.stage.Stage.{Stage}
use Rattle.mdmp_lister.specs.declared.stage.Stage.TheVariants.{Head, Records}
use Rattle.mdmp_lister.specs.declared.step.Step.{Step}
use Rattle.mdmp_lister.specs.declared.step.Step.TheVariants as step
use Rattle.mdmp_lister.specs.declared.walk.Walk.{Walk}
use Rattle.mdmp_lister.specs.Format.Numbers.{ranges_in, ranges_of_all}
use Rattle.mdmp_lister.specs.Format.Item.{kind_told}
use Rattle.mdmp_lister.specs.Format.Listing.{chosen_from}
use Rattle.mdmp_lister.specs.Format.Kind.{kind_of, lists_ranges}

-- how many of n records of this kind tell a range: all or none
abbrev pub ranges_by : StreamKind → ℕ → ℕ
ranges_by kind n = if lists_ranges kind then n else 0

-- how many ranges the records that are left of an entry tell, once its head was read
abbrev pub ranges_ahead : Stage → ℕ
ranges_ahead (Records kind shape index offset) = ranges_by kind (shape.count - index)
ranges_ahead stage = 0

-- the same, also of an entry whose head was not read yet
abbrev pub ranges_owed : List ℕ → Entry → Stage → ℕ
ranges_owed F e Head = ranges_in F e (kind_of e.stream_type)
ranges_owed F e stage = ranges_ahead stage

-- 1 for a range
abbrev pub count_told : Step → ℕ
count_told (step.Stream x) = 0
count_told (step.Record r) = ranges_by (kind_told r.fields) 1

abbrev pub count_given : Option Step → ℕ
count_given (Some s) = count_told s
count_given None = 0

abbrev pub count_answered : Result (Option Step) ListFault → ℕ
count_answered (Ok given) = count_given given
count_answered (Err f) = 0

-- there is room for the ranges that a walk may still give, those of the list that it reads and, where the file is
-- known, those of the lists behind it, once `given` more were given
pub record HasRoom {S A : Type 0} (room given : ℕ) (w : Walk S A) : Type 0 where
  pub ahead : ranges_ahead w.stage + given ≤ room
  pub owed : (file : List ℕ) → w.meter.source.store.content ≡ Some file
      → ranges_owed file w.current w.stage + ranges_of_all file (chosen_from file w.choice w.next) + given ≤ room
