use Rattle.std.proofs.Common.{rules, ◌≡◌, ◌∙◌, true, false, refl, sym}
use Rattle.std.specs.Prelude.{◌==◌, ◌||◌, Bool, nat_lt}
use Rattle.mdmp_lister.specs.Format.Kind.{is_known}
use Rattle.mdmp_engines.specs.Copying.{is_plain_type}
use Rattle.mdmp_engines.proofs.copy.copied.Goals as goal
use Rattle.mdmp_engines.proofs.copy.copied.Goals.{then-stream_type-eq0, else-stream_type-eq0, then-is_some, else-is_some+in_default, else-is_some+in_default-2, else-is_some+in-10, else-is_some+in-10-2}

one_true : (a b p d : Bool) → ((a || b) || p) ≡ true → true ≡ (a || b || p || d)
one_true true b p d is = refl
one_true false true p d is = refl
one_true false false true d is = refl
one_true false false false d is = search (is, rules)

none_true : (a b p d : Bool) → ((a || b) || p) ≡ false → d ≡ (a || b || p || d)
none_true true b p d is = search (is, rules)
none_true false true p d is = search (is, rules)
none_true false false true d is = search (is, rules)
none_true false false false d is = refl

pub returns-then-matches : goal.returns-then-matches
returns-then-matches c =
    let t = c.args.stream_type in
    let first : c.if-stream_type-eq0.value ≡ (t == 0 || is_known t) = elim c.if-stream_type-eq0.branch [ then-stream_type-eq0 w ↦ search rules | else-stream_type-eq0 w ↦ search rules ] in
    let second : c.if-is_some.value ≡ ((t == 0 || is_known t) || is_plain_type t) =
    elim c.if-is_some.branch [ then-is_some w ↦ search (first, rules) | else-is_some+in_default w ↦ search (first, rules) | else-is_some+in_default-2 w ↦ search (first, rules) | else-is_some+in-10 w ↦ search (first, rules) | else-is_some+in-10-2 w ↦ search (first, rules) ] in
    c.if-matches.true ∙ one_true (t == 0) (is_known t) (is_plain_type t) (nat_lt 65535 t) (sym second ∙ c.if-matches.true)

pub returns-else-matches : goal.returns-else-matches
returns-else-matches c =
    let t = c.args.stream_type in
    let first : c.if-stream_type-eq0.value ≡ (t == 0 || is_known t) = elim c.if-stream_type-eq0.branch [ then-stream_type-eq0 w ↦ search rules | else-stream_type-eq0 w ↦ search rules ] in
    let second : c.if-is_some.value ≡ ((t == 0 || is_known t) || is_plain_type t) =
    elim c.if-is_some.branch [ then-is_some w ↦ search (first, rules) | else-is_some+in_default w ↦ search (first, rules) | else-is_some+in_default-2 w ↦ search (first, rules) | else-is_some+in-10 w ↦ search (first, rules) | else-is_some+in-10-2 w ↦ search (first, rules) ] in
    none_true (t == 0) (is_known t) (is_plain_type t) (nat_lt 65535 t) (sym second ∙ c.if-matches.false)
