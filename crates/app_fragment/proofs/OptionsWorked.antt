-- Options of later fragments, as Linux 6 forwards them, and options that are not valid.
use Rattle.std.proofs.Common.{◌≡◌, [], ◌∷◌, refl}
use Rattle.app_fragment.specs.Ipv4Options.{later_options}

-- a recorded route, which is not copied, a stream identifier, which is, and the end
route : later_options (7 ∷ 7 ∷ 8 ∷ 1 ∷ 2 ∷ 3 ∷ 4 ∷ 136 ∷ 4 ∷ 0x12 ∷ 0x34 ∷ 0 ∷ []) ≡ 1 ∷ 1 ∷ 1 ∷ 1 ∷ 1 ∷ 1 ∷ 1 ∷ 136 ∷ 4 ∷ 0x12 ∷ 0x34 ∷ 0 ∷ []
unfolding later_options
route = refl

-- options for experiments (RFC 4727), NOPs and the end
experiments : later_options (94 ∷ 3 ∷ 9 ∷ 158 ∷ 3 ∷ 9 ∷ 1 ∷ 30 ∷ 4 ∷ 5 ∷ 5 ∷ 222 ∷ 6 ∷ 1 ∷ 2 ∷ 3 ∷ 4 ∷ 1 ∷ 0 ∷ 0 ∷ [])
    ≡ 1 ∷ 1 ∷ 1 ∷ 158 ∷ 3 ∷ 9 ∷ 1 ∷ 1 ∷ 1 ∷ 1 ∷ 1 ∷ 222 ∷ 6 ∷ 1 ∷ 2 ∷ 3 ∷ 4 ∷ 1 ∷ 0 ∷ 0 ∷ []
unfolding later_options
experiments = refl

-- nothing is an option after the end
ended : later_options (0 ∷ 7 ∷ 3 ∷ 4 ∷ []) ≡ 0 ∷ 7 ∷ 3 ∷ 4 ∷ []
unfolding later_options
ended = refl

-- lengths below 2 and past the header, and an option without one
short : later_options (7 ∷ 1 ∷ 0 ∷ 0 ∷ []) ≡ 7 ∷ 1 ∷ 0 ∷ 0 ∷ []
unfolding later_options
short = refl

long : later_options (68 ∷ 4 ∷ 5 ∷ 0 ∷ 130 ∷ 5 ∷ 9 ∷ 9 ∷ []) ≡ 1 ∷ 1 ∷ 1 ∷ 1 ∷ 130 ∷ 5 ∷ 9 ∷ 9 ∷ []
unfolding later_options
long = refl

alone : later_options (1 ∷ 1 ∷ 1 ∷ 7 ∷ []) ≡ 1 ∷ 1 ∷ 1 ∷ 7 ∷ []
unfolding later_options
alone = refl
