use Rattle.std.proofs.Common.{sym, subst, length}
use Rattle.mdmp_source.specs.FileBlock.{IsReach}
use Rattle.mdmp_source.proofs.blocked_file.BlockedFile.read_filled.Goals as goal

pub returns-clause-read : goal.returns-clause-read
returns-clause-read g c =
    let filled = c.in_ok-fill.ensures in
    record {
      block = c.fill.new.self;
      filled = record {
        answer = filled.answer;
        bytes = filled.bytes;
        reach = subst (λ wanted. IsReach c.args.self.now.block c.args.at wanted (length filled.bytes)) (sym c.give.auto.out) filled.reach;
        read = filled.read;
        at_place = filled.at_place;
        holds = filled.holds;
        same_room = filled.same_room;
        touched = filled.touched;
        asked = filled.asked;
        fresh = filled.fresh;
        fails = filled.fails;
      };
      given = c.give.ensures.given;
      used = c.give.ensures.used;
    }
