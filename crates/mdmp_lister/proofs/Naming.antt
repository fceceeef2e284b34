-- The names that were reached for an item, by its step.
use Rattle.std.proofs.Common.{◌≡◌, ◌≤◌, ◌<◌, ◌+◌, ◌^◌, ◌∙◌, ℕ, List, Option, arith, refl, ap, sym}
use Rattle.mdmp_source.specs.Count.{raised}
use Rattle.mdmp_lister.specs.declared.fetching.NameRead.{NameRead}
use Rattle.mdmp_lister.specs.declared.fetching.NameRead.TheVariants as read
use Rattle.mdmp_lister.specs.declared.item.Item.{Item}
use Rattle.mdmp_lister.specs.declared.kind.StreamKind.{StreamKind}
use Rattle.mdmp_lister.specs.declared.name.Name.{Name}
use Rattle.mdmp_lister.specs.declared.name.Name.TheVariants.{Units, Long}
use Rattle.mdmp_lister.specs.declared.name.Name.TheVariants as names
use Rattle.mdmp_lister.specs.declared.step.Step.{Step}
use Rattle.mdmp_lister.specs.declared.step.Step.TheVariants as step
use Rattle.mdmp_lister.specs.declared.fault.FaultKind.{FaultKind}
use Rattle.mdmp_lister.specs.declared.fault.FaultKind.TheVariants.{NameLengthOutside, NameOdd, NameUnitsOutside, Source, Budget}
use Rattle.mdmp_lister.specs.Meter.{MeterState}
use Rattle.mdmp_lister.specs.Format.Numbers.{faulty_name, named_once, names_of}
use Rattle.mdmp_lister.specs.Format.Item.{plain}
use Rattle.mdmp_lister.specs.Format.Name.{plain_name}
use Rattle.mdmp_lister.specs.Walk.Reaching.{ReachesAtFault, read_once, told_once}
use Rattle.mdmp_lister.specs.Fault.{IsUnobtained}
use Rattle.mdmp_lister.specs.Step.{name_read, IsStepOf, step_item}
use Rattle.mdmp_lister.specs.Format.Summary.{Summary, summary_of}
use Rattle.mdmp_lister.proofs.Summary.{summary_of-plain, summary_of-read}

named_once-plain : (name : Name) → named_once (plain_name name) ≡ named_once name
named_once-plain names.None = refl
named_once-plain (Units units) = refl
named_once-plain (Long bytes) = refl

pub names_of-plain : (x : Item) → names_of (plain x) ≡ names_of x
names_of-plain x = ap (λ (s : Summary). named_once s.name) (summary_of-plain x) ∙ named_once-plain (summary_of x).name

named_once-read : (buffer : List ℕ) (name : NameRead) → named_once (name_read buffer name) ≡ read_once name
named_once-read buffer read.None = refl
named_once-read buffer (read.Units bytes) = refl
named_once-read buffer (read.Long bytes) = refl

names_of-read : (z : ℕ) (buffer : List ℕ) (kind : Option StreamKind) (s : Step) → IsStepOf kind s → names_of (step_item z buffer s) ≡ told_once s
names_of-read z buffer kind (step.Stream x) of = refl
names_of-read z buffer kind (step.Record r) of = ap (λ (s : Summary). named_once s.name) (summary_of-read z buffer r of.1) ∙ named_once-read buffer r.name

names_of-step : (z : ℕ) (buffer : List ℕ) (kind : Option StreamKind) (s : Step) (x : Item) → IsStepOf kind s → plain x ≡ step_item z buffer s → names_of x ≡ told_once s
names_of-step z buffer kind s x of same = sym (names_of-plain x) ∙ ap names_of same ∙ names_of-read z buffer kind s of

-- the count of names rises by those of the item
pub names_raised : (z : ℕ) (buffer : List ℕ) (kind : Option StreamKind) (s : Step) (x : Item) (old new : ℕ) → IsStepOf kind s → plain x ≡ step_item z buffer s
    → new ≡ raised old (told_once s) → new ≡ raised old (names_of x)
names_raised z buffer kind s x old new of same rose = rw (names_of-step z buffer kind s x of same) rose

read_most : (name : NameRead) → read_once name ≤ 1
read_most read.None = omega arith
read_most _ = omega arith

told_most : (s : Step) → told_once s ≤ 1
told_most (step.Stream x) = omega arith
told_most (step.Record r) = read_most r.name

-- by just so many where it does not stand at its greatest
pub names_given : (z : ℕ) (buffer : List ℕ) (kind : Option StreamKind) (s : Step) (x : Item) (old new : ℕ) → IsStepOf kind s → plain x ≡ step_item z buffer s → old < 2 ^ 66
    → new ≡ raised old (told_once s) → new ≡ old + names_of x
names_given z buffer kind s x old new of same small rose = rw (names_of-step z buffer kind s x of same) (omega (arith, small, rose, told_most s))

-- a fault of the store may stand in the place of a name
pub source_reached : (kind : FaultKind) (old new : MeterState) → IsUnobtained kind → old.names ≤ new.names → new.names ≤ old.names + 1 → ReachesAtFault kind old new
source_reached (Source f) old new of more most = (omega (arith, more), most)
source_reached Budget old new of more most = (omega (arith, more), most)
source_reached _ old new of more most = absurd of

pub faulty_most : (kind : FaultKind) → faulty_name kind ≤ 1
faulty_most NameLengthOutside = omega arith
faulty_most NameOdd = omega arith
faulty_most NameUnitsOutside = omega arith
faulty_most _ = omega arith
