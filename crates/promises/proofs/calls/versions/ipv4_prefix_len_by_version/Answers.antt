use Rattle.std.proofs.Common.{ℕ, ◌≡◌, ◌↔◌, Some, subst}
use Rattle.ip_wire.specs.Prefix.{IsNetmask}
use Rattle.ip_wire.specs.IpAddress.{address_bytes}
use Rattle.promises.proofs.Agree.{same_option}
use Rattle.promises.proofs.calls.versions.ipv4_prefix_len_by_version.Goals as goal

pub returns : goal.returns
returns c =
    let either = subst (λ a. (n : ℕ) → (c.prefix_len.result ≡ Some n) ↔ IsNetmask n (address_bytes a)) c.from.ensures c.prefix_len.ensures.value in
    same_option c.prefix_len.result c.prefix_len-2.result either c.prefix_len-2.ensures.value
