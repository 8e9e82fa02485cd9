-- What C gets for a frame that is not translated.
use Rattle.std.proofs.Common.{ℕ, ℤ, pos, ◌≡◌, ◌≤◌, ◌<◌, ◌∙◌, List, [], SFits, inl, inr, length, of_z, refl, subst, sym, to_z, w32}
use Rattle.std.proofs.lemmas.Int.{to_z-of_z}
use Rattle.app_nat.specs.Nat.{IsRejected, IsUntranslated}
use Rattle.app_nat.specs.declared.translation.Rejection.{Rejection}
use Rattle.app_nat.specs.declared.translation.Rejection.TheVariants.{NotIpv4}
use Rattle.app_edit.specs.declared.side.Side.{Side}
use Rattle.ip_wire.specs.Ethernet.{ethernet_of}
use Rattle.c_structs.specs.Written.{max_len}
use Rattle.c_structs.specs.declared.types.Endpoint.{Endpoint}
use Rattle.c_routing.proofs.Within.{within-itself, within-nothing}
use Rattle.c_routing.specs.Rejections.{of_nat, rejection_code}
use Rattle.c_routing.specs.Translated.{Translates}

pub nothing : IsRejected [] NotIpv4
unfolding ethernet_of
nothing = refl

-- a frame that is too long is no frame
pub too-long : (frame : List ℕ) (side : Side) (end : Endpoint) (answer : ℤ) → end.addr.version ≡ 4 → max_len < length frame → answer ≡ pos 2
    → SFits w32 answer → Translates frame frame side end (to_z w32 (of_z w32 answer))
too-long frame side end answer version long is fits = record {
  ipv4 = λ _. inr (NotIpv4, to_z-of_z w32 answer fits ∙ is, subst (λ l. IsUntranslated l side end.port NotIpv4) (sym (within-nothing frame long)) (inl nothing), refl);
  other = λ differs. absurd (differs version);
}

pub not-translated : (frame new : List ℕ) (side : Side) (end : Endpoint) (reason : Rejection) (answer : ℤ) → end.addr.version ≡ 4
    → length frame ≤ max_len → answer ≡ pos (rejection_code (of_nat reason)) → SFits w32 answer → IsUntranslated frame side end.port reason → new ≡ frame
    → Translates frame new side end (to_z w32 (of_z w32 answer))
not-translated frame new side end reason answer version short is fits why stays = record {
  ipv4 = λ _. inr (reason, to_z-of_z w32 answer fits ∙ is, subst (λ l. IsUntranslated l side end.port reason) (sym (within-itself frame short)) why, stays);
  other = λ differs. absurd (differs version);
}
