-- The head of a list of unloaded modules, 12 bytes: MINIDUMP_UNLOADED_MODULE_LIST.
use Rattle.std.specs.Prelude.{◌≡◌, ◌≤◌, ℕ, ◌+◌, List, ◌++◌, take, drop}
use Rattle.std.proofs.Common.{arith}
use Rattle.mdmp_wire.specs.declared.unloaded_list.UnloadedList.{UnloadedList}
use Rattle.mdmp_wire.specs.Number.{number_at, le}
use Rattle.mdmp_wire.specs.NumberLaws.{number_at-within}

-- how many bytes it has
abbrev pub unloaded_list_size : ℕ
unloaded_list_size = 12

-- the head whose structure stands at o in F
abbrev pub unloaded_list_at : List ℕ → ℕ → UnloadedList
unloaded_list_at F o = record {
  size_of_header = number_at F o 4;
  size_of_entry = number_at F (o + 4) 4;
  number_of_entries = number_at F (o + 8) 4;
}

-- its bytes
abbrev pub unloaded_list_bytes : UnloadedList → List ℕ
unloaded_list_bytes x =
    le 4 x.size_of_header ++ le 4 x.size_of_entry ++ le 4 x.number_of_entries

-- it is read of its own 12 bytes alone
pub unloaded_list_at-part : (n o : ℕ) (F : List ℕ) → unloaded_list_size ≤ n → unloaded_list_at (take n (drop o F)) 0 ≡ unloaded_list_at F o
unloaded_list_at-part n o F room = grind (arith, number_at-within)
