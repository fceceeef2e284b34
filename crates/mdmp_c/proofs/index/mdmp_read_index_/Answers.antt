use Rattle.std.proofs.Common.{arith, length, refl}
use Rattle.mdmp_c.specs.Index.{row_ranges}
use Rattle.mdmp_c.specs.Index.ReadsIndexed.{reads}
use Rattle.mdmp_c.proofs.Indexed.{indexed_cells, rows_within}
use Rattle.mdmp_c.proofs.index.mdmp_read_index_.Goals as goal

pub returns : goal.returns
returns c =
    let file = c.args.file.now in
    reads (omega arith) (record {
      status_is = refl;
      fault_is = refl;
      cells = λ rows is.
          indexed_cells file rows c.args.address c.read.new.out c.read.new.known (omega (arith, c.read.auto.out, c.read.auto.known))
          (c.read.ensures.index (row_ranges (length file) rows) is (rows_within (length file) rows));
      of_file = c.read.ensures.of_file;
    })
