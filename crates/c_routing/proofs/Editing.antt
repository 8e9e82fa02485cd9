-- What C gets for an edit.
use Rattle.std.proofs.Common.{ℕ, ℤ, pos, ◌≡◌, ◌∙◌, ◌≤◌, ◌<◌, Bool, List, [], None, Option, SFits, Some, ap, is_some, length, of_z, refl, sym, to_z, w32}
use native.Mathlib.Omega.{arith}
use Rattle.std.proofs.lemmas.Int.{to_z-of_z}
use Rattle.std.proofs.lemmas.Bool.Decides.{nat_tests}
use Rattle.std.specs.Option.{option_and_then, unwrap_or}
use Rattle.app_edit.specs.Edited.{addr_set, bytes_set, dscp_set, hop_limit_set, port_set}
use Rattle.app_edit.specs.Filled.{checksum_filled}
use Rattle.app_edit.specs.Places.{places_of}
use Rattle.app_edit.specs.declared.replace.Offload.{Offload}
use Rattle.app_edit.specs.declared.side.Side.{Side}
use Rattle.ip_wire.specs.Types.{IpAddress}
use Rattle.c_structs.specs.Written.{flag, max_len, within}
use Rattle.c_routing.proofs.Within.{within-itself, within-nothing}
use Rattle.c_routing.specs.Edited.{Edits}

-- a frame that is too long is no frame
pub too-long : (edit : List ℕ → Option (List ℕ)) (frame : List ℕ) (answer : ℤ) → answer ≡ pos 0 → max_len < length frame → edit [] ≡ None
    → Edits (edit (within frame)) frame frame answer
too-long edit frame answer zero long none =
    let is : edit (within frame) ≡ None = ap edit (within-nothing frame long) ∙ none in
    (zero ∙ ap (λ (o : Option (List ℕ)). pos (flag (is_some o))) (sym is), ap (λ (o : Option (List ℕ)). unwrap_or o frame) (sym is))

-- an edit of any other
pub edits : (edit : List ℕ → Option (List ℕ)) (frame new : List ℕ) (done : Bool) (answer : ℤ) → length frame ≤ max_len → answer ≡ pos (flag done)
    → SFits w32 answer → done ≡ is_some (edit frame) → new ≡ unwrap_or (edit frame) frame → Edits (edit (within frame)) frame new (to_z w32 (of_z w32 answer))
edits edit frame new done answer short code fits is bytes =
    let same = sym (within-itself frame short) in (
      to_z-of_z w32 answer fits ∙ code ∙ ap (λ b. pos (flag b)) is ∙ ap (λ l. pos (flag (is_some (edit l)))) same,
      bytes ∙ ap (λ l. unwrap_or (edit l) frame) same,
    )

no-places : places_of [] ≡ None
unfolding places_of
no-places = refl

pub no-hop_limit : (n : ℕ) → hop_limit_set [] n ≡ None
unfolding hop_limit_set
no-hop_limit n = search no-places

pub no-dscp : (n : ℕ) → dscp_set [] n ≡ None
unfolding dscp_set
no-dscp n = grind (arith, nat_tests, no-places)

pub no-addr : (o : Offload) (side : Side) (a : IpAddress) → addr_set o [] side a ≡ None
unfolding addr_set
no-addr o side a = search no-places

pub no-port : (o : Offload) (side : Side) (n : ℕ) → port_set o [] side n ≡ None
unfolding port_set
no-port o side n = search no-places

pub no-bytes : (o : Offload) (at : ℕ) (bytes : List ℕ) → bytes_set o [] at bytes ≡ None
unfolding bytes_set
no-bytes o at bytes = grind (arith, nat_tests, no-places)

pub no-checksum : checksum_filled [] ≡ None
unfolding checksum_filled
no-checksum = search no-places

pub no-addr_of : (o : Offload) (side : Side) (found : Option IpAddress) → option_and_then (addr_set o [] side) found ≡ None
no-addr_of o side None = refl
no-addr_of o side (Some a) = no-addr o side a
