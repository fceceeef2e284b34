use Rattle.std.proofs.Common.{rules, ◌≡◌, Err}
use Rattle.mdmp_lister.proofs.Requests.{counted_head, counted_refused}
use Rattle.mdmp_lister.proofs.walk.Walk.count_records.Goals as goal

pub returns-in_err-read_head-in-Head : goal.returns-in_err-read_head-in-Head
returns-in_err-read_head-in-Head g c =
    let f = c.in_err-read_head-in-Head.field-0.0 in
    let is : c.from_residual.result ≡ Err f = search rules in
    rw is (counted_refused c.args.self.now c.read_head.new.self f c.in-Head.is c.in_err-read_head-in-Head.ensures.read c.in_err-read_head-in-Head.ensures.counted)

pub returns-in_ok-read_head-in-Head : goal.returns-in_ok-read_head-in-Head
returns-in_ok-read_head-in-Head g c =
    let of = c.in_ok-read_head-in-Head.ensures in
    counted_head c.args.self.now c.read_head.new.self c.records_left.result c.in-Head.is of.read of.counted c.records_left.ensures
