-- What is known of a CodeView record that is not of the kind RSDS.
use Rattle.std.proofs.Common.{◌≡◌, ◌≤◌, ℕ, ◌==◌, ◌||◌, ◌&&◌, Bool, true, false, cond, not, nat_lt, List, Option, Some, None, IfSome, arith, drop, length, length-drop, refl, take_while}
use Rattle.std.specs.List.{list_any}
use Rattle.uuid.specs.Parts.{swap_fields}
use Rattle.mdmp_wire.specs.CodeView.{CodeViewValue, Other, Rsds, Short, codeview_in, rsds_signature}
use Rattle.mdmp_wire.specs.Number.{array_at, number_at}
use Rattle.mdmp_summary.specs.Identity.{BuildIdValue, build_id_in, elf_signature}

-- a record of another kind has so many bytes
abbrev pub HasSize : ℕ → CodeViewValue → Type 0
HasSize n (Other signature size) = size ≡ n
HasSize n told = Unit {0}

sized : (short other : Bool) (n age : ℕ) (signature guid name : List ℕ) (ended : Bool)
    → HasSize n (cond short (Short n) (cond other (Other signature n) (Rsds guid age name ended)))
sized true other n age signature guid name ended = tt
sized false true n age signature guid name ended = refl
sized false false n age signature guid name ended = tt

pub told_size : (head rest : List ℕ) (n : ℕ) → HasSize n (codeview_in head rest n)
told_size head rest n =
    let is_rsds = number_at head 0 4 == rsds_signature in
    sized (nat_lt n 4 || (is_rsds && nat_lt n 24)) (not is_rsds) n (number_at head 20 4) (array_at head 0 4) (swap_fields (array_at head 4 16))
    (take_while (λ b. not (b == 0)) rest) (list_any (λ b. b == 0) rest)

-- a build id has few bytes
abbrev pub IsBrief : Option BuildIdValue → Type 0
IsBrief id = IfSome id (λ value. length value.bytes ≤ 20)

brief : (b : Bool) (id : BuildIdValue) → length id.bytes ≤ 20 → IsBrief (cond b None (Some id))
brief true id few = tt
brief false id few = few

pub brief_in : (head : List ℕ) (size : ℕ) → length head ≤ 24 → IsBrief (build_id_in head size)
brief_in head size few =
    brief (nat_lt size 4 || not (number_at head 0 4 == elf_signature)) (record { bytes = drop 4 head; cut = nat_lt 24 size }) (omega (arith, length-drop 4 head, few))
