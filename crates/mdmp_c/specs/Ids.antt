-- The ids by which symbol servers know a module, as a plain structure.
use Rattle.std.specs.Prelude.{ℕ, ◌-◌, List, [], ◌++◌, Option, Some, None, length, min, not, replicate, take, ◌==◌, ◌||◌, if◌then◌else◌}
use Rattle.mdmp_source.specs.Range.{bytes_at, is_inside}
use Rattle.mdmp_wire.specs.CodeView.{CodeViewValue, Rsds, Other, Short, codeview_in}
use Rattle.mdmp_summary.specs.Identity.{BuildIdValue, build_id_in, debug_id_built, pdb20_in}
use Rattle.mdmp_summary.specs.declared.identity.Pdb20.{Pdb20}
use Rattle.mdmp_c.specs.declared.ids.ModuleIds.{ModuleIds}
use Rattle.mdmp_c.specs.declared.parts.PartPlace.{PartPlace}
use Rattle.mdmp_c.specs.declared.rows.ModuleRow.{ModuleRow}

abbrev pub no_ids : ModuleIds
no_ids = record {
  kind = 0;
  age = 0;
  guid = replicate 16 0;
  signature = 0;
  build_id_size = 0;
  build_id_cut = 0;
  time_date_stamp = 0;
  size_of_image = 0;
  build_id = replicate 20 0;
}

-- so many bytes of a build id are given
abbrev pub build_id_room : ℕ
build_id_room = 20

-- the first of some bytes, and zeros after them
abbrev pub front_of : List ℕ → List ℕ
front_of bytes = take build_id_room bytes ++ replicate (build_id_room - length bytes) 0

-- of a build id
abbrev pub ids_of_build_id : BuildIdValue → ModuleIds
ids_of_build_id id = record no_ids {
  kind = 3;
  guid = (debug_id_built id.bytes).guid;
  build_id_size = min (length id.bytes) build_id_room;
  build_id_cut = if id.cut then 1 else 0;
  build_id = front_of id.bytes;
}

-- of a record of PDB 2.0, or of another kind
abbrev pub ids_of_pdb20 : Option Pdb20 → ModuleIds
ids_of_pdb20 (Some pdb) = record no_ids { kind = 2; age = pdb.age; signature = pdb.time }
ids_of_pdb20 None = record no_ids { kind = 4 }

abbrev pub ids_unless : Option BuildIdValue → ModuleIds → ModuleIds
ids_unless (Some id) ids = ids_of_build_id id
ids_unless None ids = ids

-- of a record that is not of the kind RSDS
abbrev pub ids_of_other : List ℕ → ℕ → ModuleIds
ids_of_other head size = ids_unless (build_id_in head size) (ids_of_pdb20 (pdb20_in head size))

abbrev pub ids_by : List ℕ → ℕ → CodeViewValue → ModuleIds
ids_by head size (Rsds guid age name ended) = record no_ids { kind = 1; age = age; guid = guid }
ids_by head size (Other signature n) = ids_of_other head size
ids_by head size (Short n) = no_ids

-- of a CodeView record of `size` bytes that begins with the bytes `head`, at most 24
abbrev pub codeview_ids : List ℕ → ℕ → ModuleIds
codeview_ids head size = ids_by head size (codeview_in head [] size)

-- of the CodeView record at a place inside F
abbrev pub ids_inside : List ℕ → PartPlace → ModuleIds
ids_inside F place = codeview_ids (bytes_at F place.rva (min place.size 24)) place.size

-- of the CodeView record at a place of F, if there is one inside F
abbrev pub place_ids : List ℕ → PartPlace → ModuleIds
place_ids F place = if place.size == 0 || not (is_inside place.rva place.size (length F)) then no_ids else ids_inside F place

-- the code id of a PE file has the size only beside a time
abbrev pub code_size : ModuleRow → ℕ
code_size m = if m.time_date_stamp == 0 then 0 else m.size_of_image

-- of a module of F
abbrev pub module_ids : List ℕ → ModuleRow → ModuleIds
module_ids F m = record (place_ids F m.codeview) { time_date_stamp = m.time_date_stamp; size_of_image = code_size m }
