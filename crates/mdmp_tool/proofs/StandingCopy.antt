-- What stands under the name of a copy.
use Rattle.std.proofs.Common.{◌≡◌, ◌∙◌, inl, inr, ℕ, List, [], Option, Some, ap}
use Rattle.std.specs.Prelude.{Result, Ok, Err}
use Rattle.std.proofs.lemmas.Option.{none-some}
use Rattle.mdmp_source.specs.Output.{OutState, TakesPrefix}
use Rattle.mdmp_source.specs.Store.{StoreState}
use Rattle.mdmp_disk.specs.Disk.{FileAt, IsOpenedFile, absent, bytes_of_file, present, unknown}
use Rattle.mdmp_engines.specs.declared.fault.ToolFault.{ToolFault}
use Rattle.mdmp_engines.specs.declared.fault.ToolFault.TheVariants as tool
use Rattle.mdmp_lister.specs.declared.limits.Limits.{Limits}
use Rattle.mdmp_engines.specs.Copying.{Copies}
use Rattle.mdmp_engines.specs.Engines.{IsFirstPart}
use Rattle.mdmp_tool.specs.Standing.{CopyStands, Knows, Stands}
use Rattle.mdmp_tool.specs.Words.{CopiesTo, DiskChange, Outputs}

-- a store over a file whose bytes are known has them
content_known : (found : FileAt) (store : StoreState) (F : List ℕ) → bytes_of_file found ≡ Some F → IsOpenedFile found store → store.content ≡ Some F
content_known unknown store F known opened = absurd (none-some F known)
content_known absent store F known opened = absurd opened
content_known (present file) store F known opened = opened.same_content ∙ known

module _ (Z : Type 0) (F types : List ℕ) (content : Option (List ℕ)) (size limit : ℕ) (before after : OutState) (known : content ≡ Some F)
    (blank : before.taken ≡ Some []) where
  nothing : after ≡ before → after.taken ≡ Some []
  nothing same = ap (λ (o : OutState). o.taken) same ∙ blank

  first_part : (text : List ℕ) → TakesPrefix before.taken text after.taken → IsFirstPart after.taken text
  first_part text took = record { out = took.sent; rest = took.rest; known = took.took [] blank; splits = took.whole }

  stands : (answer : Result ℕ ToolFault) → Copies Z content size types limit before answer after → Stands Z F types answer after.taken
  stands (Ok n) is = let copy = is.of_file F known in (copy.laid_out, copy.copied.1.1.took [] blank)
  stands (Err tool.Out) is = let copy = is.of_file F known in (copy.laid_out, first_part _ copy.copied.1.took)
  stands (Err (tool.Source fault)) is = elim (is.of_file F known) [
    | inl same ↦ inl (nothing same)
    | inr copy ↦ inr (copy.laid_out, first_part _ copy.copied.1.took)
  ]
  stands (Err (tool.Layout fault)) is = nothing is.quiet
  stands (Err (tool.Opening fault)) is = nothing is.quiet
  stands (Err (tool.List fault)) is = nothing is.quiet
  stands (Err (tool.Reading fault)) is = nothing is.quiet
  stands (Err (tool.Budget offset size)) is = nothing is.quiet
  stands (Err tool.Memory) is = nothing is.quiet
  stands (Err (tool.MemoryLimit held)) is = nothing is.quiet
  stands (Err (tool.AsideLimit offset size)) is = nothing is.quiet
  stands (Err (tool.CopyBudget needed)) is = nothing is.quiet
  stands (Err (tool.NotCopied t)) is = nothing is.quiet

pub copy_stands : (Z : Type 0) (F types file target : List ℕ) (limits : Limits) (status : ℕ) (disk : DiskChange) (before after : Outputs)
    → Knows disk.old file F → CopiesTo Z types limits file target disk before status after → CopyStands Z F types target disk before status after
copy_stands Z F types file target limits status disk before after knows copies = record {
  answer = copies.copied.answer;
  ends = copies.copied.ends;
  stands = rw copies.holds (stands Z F types copies.old.store.content copies.old.size limits.name _ copies.written
      (content_known (disk.old.files file) copies.old.store F knows.file copies.opened.store) knows.blank copies.copied.answer copies.copied.copies);
}
