-- The struct of an ICMP message that was not captured as a whole.
use Rattle.std.proofs.Common.{ℕ, ◌≡◌, ◌∙◌, ◌≤◌, ◌<◌, ◌+◌, ◌-◌, ◌&&◌, nat_le, if◌then◌else◌, Bool, true, false, List, ◌++◌, ap, inl, inr, length, refl, sym, arith}
use Rattle.std.proofs.lemmas.Bool.{cases_lt}
use Rattle.ip_wire.specs.Types.{IpAddress, IpProtocol}
use Rattle.c_structs.specs.Nothing.{no_icmp}
use Rattle.c_structs.specs.Verdicts.{icmp_verdict}
use Rattle.c_structs.specs.declared.codes.Verdict.{Verdict}
use Rattle.c_structs.specs.declared.codes.Verdict.TheVariants as verdict
use Rattle.c_structs.specs.declared.types.FrameFields.{FrameFields}
use Rattle.c_structs.specs.declared.types.Icmp.{Icmp}
use Rattle.c_read.proofs.CutBytes.{field-front, le-false, le-true, longer}
use Rattle.c_read.proofs.CutOf.{cut-as, same-of}
use Rattle.c_read.specs.Captured.{IsCutOf, before, transport_header}
use Rattle.c_read.specs.FrameFields.{has_message, icmp_values, is_icmp, with_icmp, with_message_by}

values-front : (bytes rest : List ℕ) → 8 ≤ length bytes → icmp_values (bytes ++ rest) ≡ icmp_values bytes
values-front bytes rest h =
    rw (field-front bytes rest 32 32 (omega (arith, h)), field-front bytes rest 0 8 (omega (arith, h)), field-front bytes rest 8 8 (omega (arith, h))) refl

-- the fields without a message, by those with it
without : (f : FrameFields) (all : List ℕ) (v : Verdict) → f ≡ before transport_header f → 8 ≤ f.payload_len
    → f ≡ record (with_icmp f all v) { transport_offset = 0; payload_offset = f.payload_offset; payload_len = f.payload_len - 8 + 8; transport = 0; transport_checksum = 0; icmp = no_icmp }
without f all v fresh h =
    let len : f.payload_len ≡ f.payload_len - 8 + 8 = omega (arith, h) in
    fresh ∙ sym (ap (λ (g : FrameFields). record g { transport_offset = 0; transport = 0; transport_checksum = 0; icmp = no_icmp }) fresh)
    ∙ ap (λ (n : ℕ). record f { transport_offset = 0; payload_len = n; transport = 0; transport_checksum = 0; icmp = no_icmp }) len

pub cut-message : (n : ℕ) (f : FrameFields) (p : IpProtocol) (src dst : IpAddress) (bytes rest : List ℕ) → f ≡ before transport_header f → f.payload_len ≡ length (bytes ++ rest)
    → n ≡ f.payload_offset + length bytes → length bytes < f.payload_len
    → IsCutOf n (if has_message p src bytes then with_icmp f bytes verdict.ChecksumCut else f) (with_message_by f p src dst (bytes ++ rest))
cut-message n f p src dst bytes rest fresh len place missing = by (is_icmp p src)
  where
    all : List ℕ
    all = bytes ++ rest

    v : Verdict
    v = icmp_verdict src dst all

    front : Bool → FrameFields
    front b = if b then with_icmp f bytes verdict.ChecksumCut else f

    whole : Bool → FrameFields
    whole b = if b then with_icmp f all v else f

    by : (a : Bool) → IsCutOf n (if a && nat_le 8 (length bytes) then with_icmp f bytes verdict.ChecksumCut else f) (if a && nat_le 8 (length all) then with_icmp f all v else f)
    by false = same-of f f refl
    by true = let size = longer bytes rest in elim (cases_lt (length bytes) 8) [
      | inr h ↦
          cut-as _ _ _ _ (ap front (le-true 8 (length bytes) h))
          (ap whole (le-true 8 (length all) (omega (arith, size, h))) ∙ ap (λ (i : Icmp). record (with_icmp f all v) { icmp = i }) (values-front bytes rest h))
          (inl (inl (record { checksum = inr (refl, omega (arith, place, missing)); fields = refl })))
      | inl few ↦ elim (cases_lt (length all) 8) [
        | inl none ↦ same-of _ _ (ap front (le-false 8 (length bytes) few) ∙ sym (ap whole (le-false 8 (length all) none)))
        | inr there ↦
            cut-as _ _ _ _ (ap front (le-false 8 (length bytes) few)) (ap whole (le-true 8 (length all) there))
            (inl (inr (record { named = refl; missing = omega (arith, place, few); fields = without f all v fresh (omega (arith, len, there)) })))
      ]
    ]
