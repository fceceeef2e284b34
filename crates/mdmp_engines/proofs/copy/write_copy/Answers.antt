use Rattle.std.proofs.Common.{arith, subst, sym}
use Rattle.mdmp_source.specs.Output.{HasRefused}
use Rattle.mdmp_source.specs.OutputLaws.{HasRefused-once}
use Rattle.mdmp_writer.proofs.Passing.{passes_twice_at_most}
use Rattle.mdmp_engines.proofs.copy.write_copy.Goals as goal

pub returns-in-Ok : goal.returns-in-Ok
returns-in-Ok g c =
    let of = c.in-Ok.ensures in
    record {
      shape = of.shape;
      passed = omega (arith, of.passed, passes_twice_at_most (g.V.DumpView.shape c.args.view.now));
      asked = of.asked;
      ends = of.ends;
      copies = λ d viewed. let went = of.writes d viewed in (went.0, (went.1, record { took = went.2; steady = of.ends.1 }));
      out = of.out;
      told = tt;
      moves = of.moves;
    }

pub returns-in-Err-Layout : goal.returns-in-Err-Layout
returns-in-Err-Layout g c =
    let of = c.in-Err-Layout.ensures in
    let is = c.in-Err-Layout.field-0-is in
    record {
      shape = of.shape;
      passed = omega (arith, of.passed, passes_twice_at_most (g.V.DumpView.shape c.args.view.now));
      asked = of.asked;
      ends = rw is at of.ends;
      copies = λ d viewed. (rw is at (of.writes d viewed), (rw is at of.ends).1);
      out = tt;
      told = tt;
      moves = of.moves;
    }

pub returns-in-Err-Out : goal.returns-in-Err-Out
returns-in-Err-Out g c =
    let of = c.in-Err-Out.ensures in
    let is = c.in-Err-Out.field-0-is in
    let ends = rw is at of.ends in
    let before = (g.O.Out.state c.args.out.now).failures in
    let refused = subst (HasRefused before) (sym ends.1) (HasRefused-once before) in
    record {
      shape = of.shape;
      passed = omega (arith, of.passed, passes_twice_at_most (g.V.DumpView.shape c.args.view.now));
      asked = of.asked;
      ends = (ends.0, refused);
      copies = λ d viewed. let went = rw is at (of.writes d viewed) in (went.0, record { took = went.1; refused = refused });
      out = tt;
      told = tt;
      moves = of.moves;
    }

pub returns-in-Err-View-Source-clause-passed : goal.returns-in-Err-View-Source-clause-passed
returns-in-Err-View-Source-clause-passed g c =
    omega (arith, c.in-Err-View-Source.ensures.passed, passes_twice_at_most (g.V.DumpView.shape c.args.view.now))
