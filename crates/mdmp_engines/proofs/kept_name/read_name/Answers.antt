use Rattle.std.proofs.Common.{rules, ◌≡◌, ◌∙◌, ◌+◌, ℕ, List, length, true, false, subst}
use Rattle.mdmp_source.specs.Range.{is_inside}
use Rattle.mdmp_wire.specs.Number.{number_at}
use Rattle.mdmp_engines.proofs.NamesRead.{length_read, some_known, told_absent, told_long, told_odd, told_outside, told_units, told_unmeasured, units_read}
use Rattle.mdmp_engines.proofs.kept_name.read_name.Goals as goal

pub returns-then-rva-eq0-clause-name : goal.returns-then-rva-eq0-clause-name
returns-then-rva-eq0-clause-name g c = λ file known. told_absent file c.args.limit c.args.rva (search rules)

pub returns-then-not-inside-clause-name : goal.returns-then-not-inside-clause-name
returns-then-not-inside-clause-name g c = λ file known.
    let size : c.size-size.result ≡ length file = some_known (λ (f : List ℕ). c.size-size.result ≡ length f) file _ known c.size-size.ensures.content in
    told_unmeasured file c.args.limit c.args.rva (subst (λ (s : ℕ). is_inside c.args.rva 4 s ≡ false) size (search rules))

pub returns-then-length-eq1-clause-name : goal.returns-then-length-eq1-clause-name
returns-then-length-eq1-clause-name g c = λ file known.
    let n = c.get_at-length.result in
    let same : n ≡ number_at file c.args.rva 4 = length_read file c.read_part.new.out c.args.rva n c.get_at-length.ensures (c.in_default.ensures.bytes file known) c.read_part.auto.out in
    told_odd file c.args.limit c.args.rva n same (search rules)

pub returns-then-not-inside-2-clause-name : goal.returns-then-not-inside-2-clause-name
returns-then-not-inside-2-clause-name g c = λ file known.
    let size : c.size-size.result ≡ length file = some_known (λ (f : List ℕ). c.size-size.result ≡ length f) file _ known c.size-size.ensures.content in
    let n = c.get_at-length.result in
    let same : n ≡ number_at file c.args.rva 4 = length_read file c.read_part.new.out c.args.rva n c.get_at-length.ensures (c.in_default.ensures.bytes file known) c.read_part.auto.out in
    told_outside file c.args.limit c.args.rva n same (subst (λ (s : ℕ). is_inside (c.args.rva + 4) n s ≡ false) size (search rules))

pub returns-then-limit-length-clause-name : goal.returns-then-limit-length-clause-name
returns-then-limit-length-clause-name g c = λ file known.
    let size : c.size-size.result ≡ length file = some_known (λ (f : List ℕ). c.size-size.result ≡ length f) file _ known c.size-size.ensures.content in
    let n = c.get_at-length.result in
    let same : n ≡ number_at file c.args.rva 4 = length_read file c.read_part.new.out c.args.rva n c.get_at-length.ensures (c.in_default.ensures.bytes file known) c.read_part.auto.out in
    told_long file c.args.limit c.args.rva n same (search rules) (subst (λ (s : ℕ). is_inside c.args.rva 4 s ≡ true) size (search rules)) (search rules)
    (subst (λ (s : ℕ). is_inside (c.args.rva + 4) n s ≡ true) size (search rules)) (search rules)

pub returns-in-Ok-read_part-clause-name : goal.returns-in-Ok-read_part-clause-name
returns-in-Ok-read_part-clause-name g c = λ file known.
    let size : c.size-size.result ≡ length file = some_known (λ (f : List ℕ). c.size-size.result ≡ length f) file _ known c.size-size.ensures.content in
    let n = c.get_at-length.result in
    let same : n ≡ number_at file c.args.rva 4 = length_read file c.read_part.new.out c.args.rva n c.get_at-length.ensures (c.in_default.ensures.bytes file known) c.read_part.auto.out in
    told_units file c.args.limit c.args.rva n same (search rules) (subst (λ (s : ℕ). is_inside c.args.rva 4 s ≡ true) size (search rules)) (search rules)
    (subst (λ (s : ℕ). is_inside (c.args.rva + 4) n s ≡ true) size (search rules)) _ (search rules)
    (units_read file c.read_part-2.new.out _ (c.args.rva + 4) n c.in-Ok.bytes.len (c.in-Ok-read_part.ensures.bytes file (c.in_default.ensures.reads.fetches.same_content ∙ known)) (search rules) (search rules))
