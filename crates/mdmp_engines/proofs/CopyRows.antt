-- Which types are copied, computed by the definition.
use Rattle.std.proofs.Common.{◌≡◌, [], ◌∷◌, None, Some, true, false, refl}
use Rattle.mdmp_engines.specs.Copying.{first_not_copied, is_copied}

unused-copied : is_copied 0 ≡ true
unused-copied = refl

threads-copied : is_copied 3 ≡ true
threads-copied = refl

handles-not-copied : is_copied 12 ≡ false
handles-not-copied = refl

functions-not-copied : is_copied 13 ≡ false
functions-not-copied = refl

misc-copied : is_copied 15 ≡ true
misc-copied = refl

regions-copied : is_copied 16 ≡ true
regions-copied = refl

thread_names-copied : is_copied 24 ≡ true
thread_names-copied = refl

last-reserved-not-copied : is_copied 65535 ≡ false
last-reserved-not-copied = refl

first-of-users-copied : is_copied 65536 ≡ true
first-of-users-copied = refl

-- the first in the order that they are given in
first-named : first_not_copied (3 ∷ 13 ∷ 12 ∷ []) ≡ Some 13
unfolding first_not_copied
first-named = refl

none-named : first_not_copied (3 ∷ 6 ∷ 200000 ∷ []) ≡ None
unfolding first_not_copied
none-named = refl
