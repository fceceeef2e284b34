use Rattle.std.proofs.Common.{rules, ◌≡◌, ◌∙◌, ap}
use Rattle.std.specs.Prelude.{min}
use Rattle.mdmp_wire.specs.CodeView.{Rsds}
use Rattle.mdmp_c.specs.Symbols.{symbols_row}
use Rattle.mdmp_c.proofs.Sliced.{codeview_sliced}
use Rattle.mdmp_c.proofs.symbols.symbols_at.Goals as goal

pub returns-in-Short : goal.returns-in-Short
returns-in-Short c = ap (symbols_row c.args.place.now) (c.in-Short.ensures ∙ codeview_sliced c.args.file.now c.args.place.now c.min.result c.min-rest.result c.args.limit c.min.ensures (c.min-rest.ensures ∙ ap (λ n. min n c.args.limit) c.saturating_sub.ensures))

pub returns-in-Other : goal.returns-in-Other
returns-in-Other c = ap (symbols_row c.args.place.now) (c.in-Other.ensures ∙ codeview_sliced c.args.file.now c.args.place.now c.min.result c.min-rest.result c.args.limit c.min.ensures (c.min-rest.ensures ∙ ap (λ n. min n c.args.limit) c.saturating_sub.ensures))

pub returns-after-ended : goal.returns-after-ended
returns-after-ended c =
    let is = c.in-Rsds.ensures ∙ codeview_sliced c.args.file.now c.args.place.now c.min.result c.min-rest.result c.args.limit c.min.ensures (c.min-rest.ensures ∙ ap (λ n. min n c.args.limit) c.saturating_sub.ensures) in
    let ended : c.if-ended.result ≡ (symbols_row c.args.place.now (Rsds c.in-Rsds.guid c.in-Rsds.age c.in-Rsds.name.now c.in-Rsds.ended)).name_ended = search rules in
    rw (c.min.ensures, c.into_bytes.ensures, ended) (ap (symbols_row c.args.place.now) is)
