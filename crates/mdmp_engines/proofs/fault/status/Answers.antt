use Rattle.std.proofs.Common.{◌≡◌, ◌⊎◌, ℕ, ap, inl, inr, sym, ◌∙◌}
use Rattle.mdmp_source.specs.declared.fault.SourceFault.{SourceFault}
use Rattle.mdmp_engines.specs.Faults.{own_status}
use Rattle.mdmp_engines.specs.declared.fault.ToolFault.{ToolFault}
use Rattle.mdmp_engines.specs.declared.fault.ToolFault.TheVariants.{Source, Budget, Out, Memory, MemoryLimit, AsideLimit, CopyBudget}
use Rattle.mdmp_engines.proofs.fault.status.Goals as goal

-- neither the file's fault nor the words'
is_three : (told : ToolFault) → ((fault : SourceFault) × (told ≡ Source fault)) ⊎ (((offset : ℕ) × (size : ℕ) × (told ≡ Budget offset size)) ⊎ ((told ≡ Out) ⊎ (told ≡ Memory))) → 3 ≡ own_status told
is_three told (inl (fault, is)) = sym (ap own_status is)
is_three told (inr (inl (offset, size, is))) = sym (ap own_status is)
is_three told (inr (inr (inl is))) = sym (ap own_status is)
is_three told (inr (inr (inr is))) = sym (ap own_status is)

pub returns-in-Source : goal.returns-in-Source
returns-in-Source c = is_three c.fault_as_told.result c.in-Source.is ∙ ap own_status c.fault_as_told.ensures

-- nor is a limit
is_limit : (told : ToolFault) → ((held : ℕ) × (told ≡ MemoryLimit held)) ⊎ (((offset : ℕ) × (size : ℕ) × (told ≡ AsideLimit offset size)) ⊎ ((needed : ℕ) × (told ≡ CopyBudget needed))) → 3 ≡ own_status told
is_limit told (inl (held, is)) = sym (ap own_status is)
is_limit told (inr (inl (offset, size, is))) = sym (ap own_status is)
is_limit told (inr (inr (needed, is))) = sym (ap own_status is)

pub returns-in-MemoryLimit : goal.returns-in-MemoryLimit
returns-in-MemoryLimit c = is_limit c.fault_as_told.result c.in-MemoryLimit.is ∙ ap own_status c.fault_as_told.ensures
