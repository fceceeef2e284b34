-- The fields of a module, and what it points at.
-- Made by bindings/generate from bindings/kinds.toml.
use Rattle.std.proofs.Common.{ℕ, ◌≡◌, List, refl, subst}
use Rattle.mdmp_wire.specs.Module.{module_at}
use Rattle.mdmp_wire.specs.declared.module.ModuleRecord.{ModuleRecord}
use Rattle.mdmp_dump.specs.Name.{IsName}
use Rattle.mdmp_dump.specs.Part.{IsPart}
use Rattle.mdmp_dump.specs.declared.module.Module.{Module}
use Rattle.mdmp_dump.specs.Module.{IsModule, module_record}
use Rattle.mdmp_dump.proofs.module.ModuleRow.of.Goals as goal

module_of : {Z : Type 0} (F : List ℕ) (o : ℕ) (x : Module Z) (r : ModuleRecord) → r ≡ module_at F o → r ≡ module_record x r.module_name_rva r.cv_record r.misc_record
    → IsName F r.module_name_rva x.name → IsPart F r.cv_record x.codeview → IsPart F r.misc_record x.misc → IsModule F o x
module_of F o x r same is name codeview misc = record {
  fields = subst (λ (s : ModuleRecord). s ≡ module_record x s.module_name_rva s.cv_record s.misc_record) same is;
  name = subst (λ (s : ModuleRecord). IsName F s.module_name_rva x.name) same name;
  codeview = subst (λ (s : ModuleRecord). IsPart F s.cv_record x.codeview) same codeview;
  misc = subst (λ (s : ModuleRecord). IsPart F s.misc_record x.misc) same misc;
}

pub returns : goal.returns
returns g c = λ file at k o found.
    let read = rw c.in-Module.is at found in
    let same : c.in-Module.module ≡ module_at file o = let is = read.is.fields in cc is in
    let taken : c.take.result ≡ c.args.parts.now.name = cc in
    module_of file o _ c.in-Module.module same refl (rw taken read.name) (rw c.take_part.ensures read.parts.second) (rw c.take_part-2.ensures read.parts.third)
