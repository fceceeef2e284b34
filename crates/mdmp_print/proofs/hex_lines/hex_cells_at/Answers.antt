use Rattle.std.proofs.Common.{ap, arith, refl, sym}
use Rattle.std.proofs.lemmas.List.{append-nil, take_all}
use Rattle.std.specs.List.{flat_map}
use Rattle.mdmp_lister.specs.Addressing.{cells}
use Rattle.mdmp_print.specs.HexText.{cell_text}
use Rattle.mdmp_print.proofs.HexLemmas.{IsItem-cell, length-cells, text_more}
use Rattle.mdmp_print.proofs.BufferLemmas.{IsPutBehind-as, IsPutBehind-then}
use Rattle.mdmp_print.proofs.hex_lines.hex_cells_at.Goals as goal

pub loop-index-init : goal.loop-index-init
loop-index-init c = record { text = sym (append-nil _); within = omega arith; same = refl }

pub loop-index-preserved : goal.loop-index-preserved
loop-index-preserved c =
    let i = c.loop-index.index in
    let all = cells c.args.bytes.now c.args.known.now in
    IsPutBehind-as (sym (text_more cell_text all i _ (IsItem-cell c.args.bytes.now c.args.known.now i _ _ c.requires.same c.loop-index-test.true))) (omega arith)
    (IsPutBehind-then c.loop-index.invariant c.hex_cell_at-len.ensures)

pub returns : goal.returns
returns c =
    let all = cells c.args.bytes.now c.args.known.now in
    let count = length-cells c.args.bytes.now c.args.known.now c.requires.same in
    IsPutBehind-as (ap (flat_map cell_text) (take_all c.loop-index.index all (omega (arith, count, c.loop-index-test.false)))) (omega (arith, c.loop-index-test.false, c.loop-index.auto)) c.loop-index.invariant
