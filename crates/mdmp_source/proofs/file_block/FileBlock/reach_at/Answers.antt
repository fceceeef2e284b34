use Rattle.std.proofs.Common.{rules, ◌≡◌, ◌∙◌, ap, max, min}
use Rattle.mdmp_source.proofs.file_block.FileBlock.reach_at.Goals as goal

pub returns-clause-reach : goal.returns-clause-reach
returns-clause-reach g c =
    let room : c.capacity-room.result ≡ c.args.self.now.room = c.capacity-room.ensures ∙ ap (λ block. block.room) c.self.view_is in
    record {
      grown = search rules;
      fallen = λ _. c.min-2.ensures ∙ ap (λ asked. min c.capacity-room.result asked) c.max-2.ensures
          ∙ ap (λ most. min most (max c.args.wanted 512)) room;
    }
