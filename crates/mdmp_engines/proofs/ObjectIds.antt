-- The texts of names and ids in an object, by what was read.
use Rattle.std.proofs.Common.{◌≡◌, ◌∙◌, ℕ, List, Some, None, Result, Ok, Err, min, refl, take}
use Rattle.mdmp_source.specs.Output.{OutState, Puts}
use Rattle.mdmp_source.specs.declared.output.OutFailed.{OutFailed}
use Rattle.mdmp_source.specs.declared.location.Extent.{Extent}
use Rattle.mdmp_source.specs.declared.location.Extent.TheVariants.{Empty, Absent, Inside, Outside}
use Rattle.mdmp_wire.specs.declared.module.ModuleRecord.{ModuleRecord}
use Rattle.mdmp_lister.specs.Format.Name.{plain_name}
use Rattle.mdmp_lister.specs.declared.name.Name.{Name}
use Rattle.mdmp_lister.specs.declared.name.Name.TheVariants as names
use Rattle.mdmp_summary.specs.Symbols.{AreSymbolsOf, symbols_rest}
use Rattle.mdmp_summary.specs.declared.codeview_reading.SymbolsRead.{SymbolsRead}
use Rattle.mdmp_summary_lines.specs.JsonIds.{codeview_ids_text, module_ids_text}
use Rattle.mdmp_summary_lines.specs.JsonText.{file_string, name_string}
use Rattle.mdmp_engines.specs.ObjectVisits.{HasOut}
use Rattle.mdmp_engines.specs.SummaryObject.{ids_in_class}

-- ---- ids

pub ids_told : (F : List ℕ) (room : ℕ) (fields : ModuleRecord) (e : Extent) (read : SymbolsRead) (buffer rest : List ℕ) → AreSymbolsOf F fields.cv_record room e (Some read) buffer → rest ≡ take read.rest buffer
    → codeview_ids_text fields (take (min read.size 24) read.head) rest read.size ≡ ids_in_class F room fields e
ids_told F room fields Inside read buffer rest are is =
    let behind : rest ≡ symbols_rest F fields.cv_record room = is ∙ are.rest in
    λ i. codeview_ids_text fields (are.head i) (behind i) (are.size_is i)
ids_told F room fields Empty read buffer rest are is = absurd are
ids_told F room fields Absent read buffer rest are is = absurd are
ids_told F room fields Outside read buffer rest are is = absurd are

pub ids_none : (F : List ℕ) (room : ℕ) (fields : ModuleRecord) (e : Extent) (buffer : List ℕ) → AreSymbolsOf F fields.cv_record room e None buffer → module_ids_text fields None ≡ ids_in_class F room fields e
ids_none F room fields Inside buffer are = absurd are
ids_none F room fields Empty buffer are = refl
ids_none F room fields Absent buffer are = refl
ids_none F room fields Outside buffer are = refl

-- what is put says how the output stands
pub puts_out : (r : Result (Unit {0}) OutFailed) (a b : OutState) (text : List ℕ) → Puts r a text b → HasOut r a b
puts_out (Ok done) a b text put = put.steady
puts_out (Err failed) a b text cut = cut.refused

-- ---- names, whatever place their units are lent from

pub name_plain : (n : Name) → name_string (plain_name n) ≡ name_string n
name_plain names.None = refl
name_plain (names.Units units) = refl
name_plain (names.Long length) = refl

pub file_plain : (n : Name) → file_string (plain_name n) ≡ file_string n
file_plain names.None = refl
file_plain (names.Units units) = refl
file_plain (names.Long length) = refl
