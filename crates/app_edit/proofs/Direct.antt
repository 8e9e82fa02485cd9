-- The places of an IPv6 packet without extension headers.
use Rattle.std.proofs.Common.{ℕ, ◌≡◌, ◌-◌, List, ap, false, slice_range, sym}
use Rattle.wire_extensions.proofs.Steps.{chain-none}
use Rattle.wire_extensions.specs.Chain.{begun}
use Rattle.wire_extensions.specs.Extension.{is_extension}
use Rattle.wire_extensions.specs.declared.chain.Chain.{Chain}
use Rattle.app_edit.specs.Places.{extensions, places_after}

pub direct : (xs : List ℕ) (n end : ℕ) → is_extension n ≡ false → places_after xs (begun n) end ≡ places_after xs (extensions xs n end) end
direct xs n end none = sym (ap (λ (c : Chain). places_after xs c end) (chain-none n (end - 54) (slice_range xs 54 end) none))
