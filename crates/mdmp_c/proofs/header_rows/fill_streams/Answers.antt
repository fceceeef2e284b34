use Rattle.std.proofs.Common.{◌≡◌, ◌∙◌, ◌+◌, ◌*◌, ◌++◌, ◌∷◌, [], ℕ, List, ap, arith, length, map, sym}
use Rattle.std.specs.List.{range_with_len}
use Rattle.std.proofs.lemmas.List.FromFn.{length-map-range_with_len, map-range_with_len_more}
use Rattle.mdmp_wire.specs.Entry.{entry_at}
use Rattle.mdmp_c.specs.declared.header_rows.StreamRow.{StreamRow}
use Rattle.mdmp_c.specs.Directory.{stream_row}
use Rattle.mdmp_c.specs.Giving.{put_front, told_count}
use Rattle.mdmp_c.proofs.Directories.{entry_inside}
use Rattle.mdmp_c.proofs.Gathered.{put_front-nothing}
use Rattle.mdmp_c.proofs.header_rows.fill_streams.Goals as goal

pub get_at-entry-requires : goal.get_at-entry-requires
get_at-entry-requires c = entry_inside c.args.at c.args.count c.loop-number.number (length c.args.file.now) c.requires c.loop-number-test.true

pub loop-number-init : goal.loop-number-init
loop-number-init c = record { within = omega arith; rows = sym (put_front-nothing c.args.out.now) }

pub loop-number-preserved : goal.loop-number-preserved
loop-number-preserved c =
    let n : ℕ = c.loop-number.number in
    let entry_row : ℕ → StreamRow = λ e. stream_row e (entry_at c.args.file.now (c.args.at + 12 * e)) in
    let rows : List StreamRow = map entry_row (range_with_len 0 n) in
    let long : length rows ≡ n = length-map-range_with_len entry_row 0 n in
    let index : c.from.result ≡ told_count (length rows) = omega (arith, long, c.from.ensures, c.loop-number-test.true, c.ranges.count.fits) in
    let is : c.stream_row.result ≡ entry_row n = c.stream_row.ensures ∙ ap (stream_row n) c.get_at-entry.ensures in
    let more : map entry_row (range_with_len 0 (n + 1)) ≡ rows ++ entry_row n ∷ [] = map-range_with_len_more entry_row 0 n n (omega arith) in
    record {
      within = omega (arith, c.loop-number-test.true);
      rows =
          c.set_row.ensures rows c.args.out.now c.loop-number.invariant.rows index
          ∙ ap (λ (x : StreamRow). put_front (rows ++ x ∷ []) c.args.out.now) is
          ∙ ap (λ (xs : List StreamRow). put_front xs c.args.out.now) (sym more);
    }

pub returns : goal.returns
returns c =
    let end : c.loop-number.number ≡ c.args.count = omega (arith, c.loop-number-test.false, c.loop-number.invariant.within) in
    c.loop-number.invariant.rows
    ∙ ap (λ n. put_front (map (λ e. stream_row e (entry_at c.args.file.now (c.args.at + 12 * e))) (range_with_len 0 n)) c.args.out.now) end
