use Rattle.mdmp_tool.proofs.words.run_on_disk.Goals as goal

pub returns-in-Check : goal.returns-in-Check
returns-in-Check g c =
    let of = c.invocation_of.ensures in
    record { asked = c.invocation_of.result; valid = of.valid; asks = of.asks; empty = of.empty; ends = rw (c.in-Run.is, c.in-Check.is) c.check_file.ensures }

pub returns-in-List : goal.returns-in-List
returns-in-List g c =
    let of = c.invocation_of.ensures in
    record { asked = c.invocation_of.result; valid = of.valid; asks = of.asks; empty = of.empty; ends = rw (c.in-Run.is, c.in-List.is) c.print_file.ensures }

pub returns-in-Hex : goal.returns-in-Hex
returns-in-Hex g c =
    let of = c.invocation_of.ensures in
    record { asked = c.invocation_of.result; valid = of.valid; asks = of.asks; empty = of.empty; ends = rw (c.in-Run.is, c.in-Hex.is) c.print_file-in-Hex.ensures }

pub returns-in-Copy : goal.returns-in-Copy
returns-in-Copy g c =
    let of = c.invocation_of.ensures in
    record {
      asked = c.invocation_of.result;
      valid = of.valid;
      asks = of.asks;
      empty = of.empty;
      ends = rw (c.in-Run.is, c.in-Copy.is) (c.copy_file.ensures (g.O.Out.state c.args.out.now));
    }
