-- Laws of the table of kinds: of the type of each, of the sizes of records and heads, at least and at most.
use Rattle.std.specs.Option.{option_map}
use Rattle.std.specs.Prelude.{◌≡◌, ◌≤◌, ◌<◌, ℕ, List, IfSome, Option, Some, None, Bool, true, false, ◌==◌, if◌then◌else◌}
use Rattle.std.proofs.Common.{◌∙◌, ap, arith, refl}
use Rattle.std.proofs.lemmas.Bool.{eqb-true}
use Rattle.mdmp_lister.specs.declared.form.Form.{Form}
use Rattle.mdmp_lister.specs.declared.form.Form.TheVariants as forms
use Rattle.mdmp_lister.specs.declared.kind.StreamKind.{StreamKind}
use Rattle.mdmp_lister.specs.declared.kind.StreamKind.TheVariants as kinds
use Rattle.mdmp_wire.specs.AnyRecord.{name_rva}
use Rattle.mdmp_lister.specs.Format.Item.{record_at}
use Rattle.mdmp_lister.specs.Format.Kind.{field_end, field_rva, greatest_record, kind_of, name_field, record_size, type_of_kind}
use Rattle.mdmp_lister.specs.Format.Shape.{head_cost}

-- the kind of its type is that kind
pub kind_of-type : (kind : StreamKind) → kind_of (type_of_kind kind) ≡ Some kind
kind_of-type kinds.Threads = refl
kind_of-type _ = refl

of_row : (t : ℕ) (one kind : StreamKind) (others : Option StreamKind) (b : Bool) → (t == type_of_kind one) ≡ b → (others ≡ Some kind → t ≡ type_of_kind kind)
    → (if b then Some one else others) ≡ Some kind → t ≡ type_of_kind kind
of_row t one kind others true is next same =
    let kinds_are : one ≡ kind = cc same in
    eqb-true t (type_of_kind one) is ∙ ap type_of_kind kinds_are
of_row t one kind others false is next same = next same

-- a type whose records are known is that of its kind
pub type_of-kind : (t : ℕ) (kind : StreamKind) → kind_of t ≡ Some kind → t ≡ type_of_kind kind
type_of-kind t kind =
    of_row t kinds.Threads kind _ _ refl (of_row t kinds.Modules kind _ _ refl (of_row t kinds.Memory kind _ _ refl
    (of_row t kinds.Exception kind _ _ refl (of_row t kinds.System kind _ _ refl (of_row t kinds.Memory64 kind _ _ refl
    (of_row t kinds.Unloaded kind _ _ refl (of_row t kinds.MemoryInfo kind _ _ refl (of_row t kinds.ThreadNames kind None _ refl
    (λ none. absurd (cc none))))))))))

pub least_record : (kind : StreamKind) → 0 < record_size kind
least_record kinds.Threads = omega arith
least_record _ = omega arith

pub most_record : (kind : StreamKind) → record_size kind ≤ greatest_record
most_record kinds.Threads = omega arith
most_record _ = omega arith

-- the field of its name lies in a record, and has what the record says
pub field_within : (kind : StreamKind) → IfSome (name_field kind) (λ field. field_end field ≤ record_size kind)
field_within kinds.Modules = omega arith
field_within kinds.System = omega arith
field_within kinds.Unloaded = omega arith
field_within kinds.ThreadNames = omega arith
field_within _ = tt

pub named_by_field : (kind : StreamKind) (F : List ℕ) → option_map (field_rva F) (name_field kind) ≡ name_rva (record_at kind F 0)
named_by_field kinds.Threads F = refl
named_by_field _ F = refl

pub most_head : (form : Form) → head_cost form ≤ 16
most_head forms.Single = omega arith
most_head _ = omega arith
