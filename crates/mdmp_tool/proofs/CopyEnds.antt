-- How a copy ends whose file was made and closed.
use Rattle.std.proofs.Common.{◌≡◌, ◌∙◌, ℕ, List, None, refl, subst}
use Rattle.mdmp_source.specs.Output.{OutState}
use Rattle.mdmp_source.specs.Source.{SourceState}
use Rattle.mdmp_disk.specs.Disk.{DiskState, IsClosed, IsMade, opened_once}
use Rattle.mdmp_lister.specs.declared.limits.Limits.{Limits}
use Rattle.mdmp_tool.specs.Commands.{HasCopied}
use Rattle.mdmp_engines.specs.Copying.{first_not_copied}
use Rattle.mdmp_tool.specs.Words.{EndsCopy, IsOver, copied}

pub copy_ends : (Z : Type 0) (types : List ℕ) (limits : Limits) (file target : List ℕ) (before after_opening after_making after : DiskState) (old new : SourceState)
    (made written out err told : OutState) (status : ℕ)
    → first_not_copied types ≡ None → after_opening ≡ opened_once before → IsOver (before.files file) old → IsMade after_opening target made after_making
    → HasCopied Z types limits old made err status new written told → IsClosed after_making target written after
    → EndsCopy Z types limits file target (record { old = before; new = after }) (record { out = out; err = err }) status (record { out = out; err = told })
copy_ends Z types limits file target before after_opening after_making after old new made written out err told status all opening over making copying closing =
    let vacated : IsMade (opened_once before) target made after_making = subst (λ (s : DiskState). IsMade s target made after_making) opening making in
    copied all (record {
      old = old;
      new = new;
      written = written;
      opened = over;
      vacant = vacated.vacant;
      copied = subst (λ (o : OutState). HasCopied Z types limits old o err status new written told) vacated.empty copying;
      holds = closing.bytes;
      others = λ other differs. closing.others other differs ∙ vacated.others other differs;
      same_blank = closing.same_blank ∙ vacated.same_blank;
      counted = closing.same_requests ∙ vacated.counted;
      quiet = refl;
    })
