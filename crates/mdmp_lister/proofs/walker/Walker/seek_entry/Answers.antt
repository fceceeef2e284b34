use Rattle.std.proofs.Common.{refl, rules}
use Rattle.mdmp_lister.proofs.walker.Walker.seek_entry.Goals as goal

pub returns-in_default : goal.returns-in_default
returns-in_default g c = rw (← c.self.view_is) (record {
  goes = λ unfailed. record { position = refl; left = refl; stop = refl; unread = refl };
  stays = search rules;
  same = refl;
  mark = refl;
})
