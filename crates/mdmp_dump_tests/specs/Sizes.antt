-- A view that only tells sizes has no names and parts without records.
use Rattle.std.proofs.Common.{ℕ, zero, suc, [], ◌∷◌, false, None, refl}
use Rattle.mdmp_dump.specs.declared.view.Kind.TheVariants as kinds
use Rattle.mdmp_dump.specs.Shape.{HaveNoStrayParts}

pub no_stray_parts : (stream_type raw far : ℕ) → HaveNoStrayParts (record {
  header = record { version_high = 0; checksum = 0; time = 0; flags = 0 };
  streams = record { kind = kinds.Raw stream_type; records = 0; raw = raw; parts = 0; bytes = 0 }
      ∷ record { kind = kinds.Known 9; records = 1; raw = 0; parts = far; bytes = 0 } ∷ [];
  costs = [];
  places = [];
  is_reliable = false;
  seen = None;
})
no_stray_parts stream_type raw far zero none = refl
no_stray_parts stream_type raw far (suc zero) none = absurd (cc)
no_stray_parts stream_type raw far (suc (suc k)) none = refl
