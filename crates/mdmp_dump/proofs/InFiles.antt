-- What a file lays out is what stands in it.
use Rattle.std.proofs.Common.{◌≡◌, ◌∙◌, ◌+◌, ◌*◌, ℕ, zero, suc, List, length, Option, Some, None, Result, Ok, Err, refl, ap, sym}
use Rattle.std.specs.Result.{result_map_both}
use Rattle.mdmp_source.specs.Extent.{extent_of}
use Rattle.mdmp_source.specs.declared.location.Location.{Location}
use Rattle.mdmp_source.specs.declared.location.Extent.{Extent}
use Rattle.mdmp_source.specs.declared.location.Extent.TheVariants as classes
use Rattle.mdmp_wire.specs.Descriptor.{descriptor_at}
use Rattle.mdmp_wire.specs.Exception.{exception_at}
use Rattle.mdmp_wire.specs.Module.{module_at}
use Rattle.mdmp_wire.specs.System.{system_at}
use Rattle.mdmp_wire.specs.Thread.{thread_at}
use Rattle.mdmp_wire.specs.ThreadName.{thread_name_at}
use Rattle.mdmp_wire.specs.Unloaded.{unloaded_at}
use Rattle.mdmp_lister.specs.declared.fault.Fault.{Fault}
use Rattle.mdmp_lister.specs.declared.name.Name.{Name}
use Rattle.mdmp_lister.specs.Format.Name.{name_at}
use Rattle.mdmp_dump.specs.Exception.{IsException}
use Rattle.mdmp_dump.specs.InFile.{exception_in, memory_in, module_in, name_in, part_named, part_or, rows_in, system_in, thread_in, thread_name_in, told_or, units_told, unloaded_in}
use Rattle.mdmp_dump.specs.LaysOut.{EachFrom}
use Rattle.mdmp_dump.specs.Memory.{IsMemory}
use Rattle.mdmp_dump.specs.Module.{IsModule}
use Rattle.mdmp_dump.specs.Name.{IsName, name_told}
use Rattle.mdmp_dump.specs.Part.{IsPart, part_in}
use Rattle.mdmp_dump.specs.System.{IsSystem}
use Rattle.mdmp_dump.specs.Thread.{IsThread}
use Rattle.mdmp_dump.specs.ThreadName.{IsThreadName}
use Rattle.mdmp_dump.specs.Unloaded.{IsUnloaded}

-- a part that does not lie outside, and a name that has no fault
abbrev pub IsNamed : List ℕ → Location → Type 0
IsNamed F at = extent_of at (length F) ≡ classes.Outside → ⊥

abbrev pub HasName : List ℕ → ℕ → Type 0
HasName F rva = (name : Option (List ℕ)) × IsName F rva name

held_name : Option (Option (List ℕ)) → Result (Option (Option (List ℕ))) Fault → Option (Option (List ℕ))
held_name other (Ok name) = name
held_name other (Err fault) = other

name_of : (r : Result Name Fault) (name : Option (List ℕ)) → result_map_both name_told (λ fault. fault) r ≡ Ok (Some name) → result_map_both name_told (λ fault. fault) r ≡ Ok (Some (units_told r))
unfolding held_name
name_of (Ok n) name is = is ∙ ap (λ (u : Option (List ℕ)). Ok (Some u)) (sym (ap told_or (ap (held_name None) is)))
name_of (Err fault) name is = absurd (cc)

pub name_is : (F : List ℕ) (rva : ℕ) → HasName F rva → IsName F rva (name_in F rva)
name_is F rva has = name_of (name_at F rva (length F)) has.0 has.1

module _ {Z : Type 0} where
  part_of : (F : List ℕ) (at : Location) (x : Extent) → (x ≡ classes.Outside → ⊥) → part_in {Z = Z} F at x ≡ Some (part_or (part_in {Z = Z} F at x))
  part_of F at classes.Empty named = refl
  part_of F at classes.Absent named = refl
  part_of F at classes.Inside named = refl
  part_of F at classes.Outside named = absurd (named refl)

  pub part_is : (F : List ℕ) (at : Location) → IsNamed F at → IsPart F at (part_named {Z = Z} F at)
  part_is F at named = part_of F at (extent_of at (length F)) named

  pub thread_is : (F : List ℕ) (o : ℕ) → IsNamed F (thread_at F o).stack.memory → IsNamed F (thread_at F o).thread_context → IsThread F o (thread_in {Z = Z} F o)
  thread_is F o stack context = record { fields = refl; stack = part_is F (thread_at F o).stack.memory stack; context = part_is F (thread_at F o).thread_context context }

  pub module_is : (F : List ℕ) (o : ℕ) → HasName F (module_at F o).module_name_rva → IsNamed F (module_at F o).cv_record → IsNamed F (module_at F o).misc_record → IsModule F o (module_in {Z = Z} F o)
  module_is F o name codeview misc = record {
    fields = refl;
    name = name_is F (module_at F o).module_name_rva name;
    codeview = part_is F (module_at F o).cv_record codeview;
    misc = part_is F (module_at F o).misc_record misc;
  }

  pub memory_is : (F : List ℕ) (o : ℕ) → IsNamed F (descriptor_at F o).memory → IsMemory F o (memory_in {Z = Z} F o)
  memory_is F o bytes = record { fields = refl; bytes = part_is F (descriptor_at F o).memory bytes }

  pub exception_is : (F : List ℕ) (o : ℕ) → IsNamed F (exception_at F o).thread_context → IsException F o (exception_in {Z = Z} F o)
  exception_is F o context = record { fields = refl; context = part_is F (exception_at F o).thread_context context }

  pub system_is : (F : List ℕ) (o : ℕ) → HasName F (system_at F o).csd_version_rva → IsSystem F o (system_in {Z = Z} F o)
  system_is F o name = record { fields = refl; name = name_is F (system_at F o).csd_version_rva name }

  pub unloaded_is : (F : List ℕ) (o : ℕ) → HasName F (unloaded_at F o).module_name_rva → IsUnloaded F o (unloaded_in {Z = Z} F o)
  unloaded_is F o name = record { fields = refl; name = name_is F (unloaded_at F o).module_name_rva name }

  pub thread_name_is : (F : List ℕ) (o : ℕ) → HasName F (thread_name_at F o).rva_of_thread_name → IsThreadName F o (thread_name_in {Z = Z} F o)
  thread_name_is F o name = record { fields = refl; name = name_is F (thread_name_at F o).rva_of_thread_name name }

-- each record in its place
pub rows_are : {X : Type 0} (IsAt : ℕ → ℕ → X → Type 0) (f : ℕ → ℕ → X) (at stride k n : ℕ) → ((j : ℕ) → IsAt j (at + j * stride) (f j (at + j * stride))) → EachFrom IsAt at stride k (rows_in f at stride k n)
unfolding rows_in
rows_are IsAt f at stride k zero each = tt
rows_are IsAt f at stride k (suc n) each = (each k, rows_are IsAt f at stride (k + 1) n each)
