-- The first of seven guards.
use Rattle.std.proofs.Common.{◌≡◌, [], ◌∷◌, Option, Some, None, refl}
use Rattle.std.specs.Option.{option_or}
use Rattle.bisync_guard.specs.declared.guards.Guard.{Guard}
use Rattle.bisync_guard.specs.Order.{first_of}

pub first_of_seven : (a b c d e f g : Option Guard)
    → option_or (option_or (option_or (option_or (option_or (option_or a b) c) d) e) f) g ≡ first_of (a ∷ b ∷ c ∷ d ∷ e ∷ f ∷ g ∷ [])
first_of_seven (Some x) b c d e f g = refl
first_of_seven None (Some x) c d e f g = refl
first_of_seven None None (Some x) d e f g = refl
first_of_seven None None None (Some x) e f g = refl
first_of_seven None None None None (Some x) f g = refl
first_of_seven None None None None None (Some x) g = refl
first_of_seven None None None None None None (Some x) = refl
first_of_seven None None None None None None None = refl
