-- The ports of a fragment that was not captured as a whole.
use Rattle.std.proofs.Common.{ℕ, ◌≡◌, ◌∙◌, ◌≤◌, ◌<◌, inl, inr, ◌+◌, ◌-◌, ◌==◌, ◌&&◌, nat_le, if◌then◌else◌, Bool, true, false, List, ◌++◌, ap, drop, length, refl, subst, sym, arith}
use Rattle.std.proofs.lemmas.Bool.{cases_lt}
use Rattle.std.proofs.lemmas.List.{drop-append-le, length-drop}
use Rattle.ip_wire.specs.Field.{field}
use Rattle.ip_wire.specs.Protocol.{protocol_of}
use Rattle.ip_wire.specs.Types.{IpProtocol}
use Rattle.c_structs.specs.declared.types.FrameFields.{FrameFields}
use Rattle.c_read.proofs.CutBytes.{field-front, le-false, le-true, longer}
use Rattle.c_read.proofs.CutOf.{cut-as, same-of}
use Rattle.c_read.specs.Captured.{IsCutOf, before, ports_end, transport_header}
use Rattle.c_read.specs.FrameFields.{begins_with_ports, with_first_ports, with_part}

-- the fields with the ports at the beginning of these bytes, if they are there
abbrev ported : FrameFields → Bool → List ℕ → FrameFields
ported f there bytes = record f {
  src = record f.src { port = if there then field bytes 0 16 else f.src.port };
  dst = record f.dst { port = if there then field bytes 16 16 else f.dst.port };
}

-- no fragment but the first has ports
pub no-ports : (f : FrameFields) (first : Bool) (p : IpProtocol) (bytes : List ℕ) → first ≡ false → with_first_ports f first p bytes ≡ f
no-ports f first p bytes later = ap (λ (b : Bool). with_first_ports f b p bytes) later

-- two ends with the same ports
same-ports : {n : ℕ} (f : FrameFields) (bytes rest : List ℕ) (b : Bool) → 4 ≤ length bytes → IsCutOf n (ported f b bytes) (ported f b (bytes ++ rest))
same-ports f bytes rest b h =
    same-of _ _ (ap (λ (k : ℕ). record f {
      src = record f.src { port = if b then k else f.src.port };
      dst = record f.dst { port = if b then field bytes 16 16 else f.dst.port };
    }) (sym (field-front bytes rest 0 16 (omega (arith, h))))
    ∙ ap (λ (k : ℕ). record f {
      src = record f.src { port = if b then field (bytes ++ rest) 0 16 else f.src.port };
      dst = record f.dst { port = if b then k else f.dst.port };
    }) (sym (field-front bytes rest 16 16 (omega (arith, h)))))

-- the ports were cut
lost-ports : (n : ℕ) (f : FrameFields) (all : List ℕ) (b : Bool) → f ≡ before transport_header f → f.is_fragment ≡ 1 → n < ports_end f → IsCutOf n f (ported f b all)
lost-ports n f all false fresh part few = same-of _ _ refl
lost-ports n f all true fresh part few =
    inr (inr (inr (record {
      part = part;
      missing = few;
      fields = fresh ∙ sym (ap (λ (g : FrameFields). record g { src = record g.src { port = 0 }; dst = record g.dst { port = 0 } }) fresh);
    })))

-- the ports at the beginning of the bytes, of which these were captured
pub cut-ports : (n : ℕ) (f : FrameFields) (first : Bool) (p : IpProtocol) (bytes rest : List ℕ) → f ≡ before transport_header f → f.is_fragment ≡ 1
    → (length bytes < 4 → n < ports_end f) → IsCutOf n (with_first_ports f first p bytes) (with_first_ports f first p (bytes ++ rest))
cut-ports n f false p bytes rest fresh part few = same-of _ _ refl
cut-ports n f true p bytes rest fresh part few =
    let all = bytes ++ rest in
    let size = longer bytes rest in
    elim (cases_lt (length bytes) 4) [
      | inr h ↦
          cut-as _ _ _ _ (ap (λ (b : Bool). ported f (b && begins_with_ports p) bytes) (le-true 4 (length bytes) h))
          (ap (λ (b : Bool). ported f (b && begins_with_ports p) all) (le-true 4 (length all) (omega (arith, size, h))))
          (same-ports f bytes rest (begins_with_ports p) h)
      | inl cut ↦
          cut-as _ _ _ _ (ap (λ (b : Bool). ported f (b && begins_with_ports p) bytes) (le-false 4 (length bytes) cut)) refl
          (lost-ports n f all (nat_le 4 (length all) && begins_with_ports p) fresh part (few cut))
    ]

-- those of an IPv4 fragment
pub cut-part : (n : ℕ) (f : FrameFields) (bytes rest : List ℕ) → f ≡ before transport_header f → f.is_fragment ≡ 1 → f.network ≡ 2
    → n ≡ f.payload_offset + length bytes → IsCutOf n (with_part f bytes) (with_part f (bytes ++ rest))
cut-part n f bytes rest fresh part network place =
    cut-ports n f (f.ip.fragment_offset == 0) (protocol_of f.protocol) bytes rest fresh part
    (λ few. subst (λ (k : ℕ). n < f.payload_offset + (if k == 2 then 4 else 12)) (sym network) (omega (arith, place, few)))

-- those after an IPv6 fragment header, which may be cut itself
pub cut-fragment : (n : ℕ) (f : FrameFields) (first : Bool) (bytes rest : List ℕ) → f ≡ before transport_header f → f.is_fragment ≡ 1 → f.network ≡ 3
    → n ≡ f.payload_offset + length bytes
    → IsCutOf n (with_first_ports f first (protocol_of (field bytes 0 8)) (drop 8 bytes))
    (with_first_ports f first (protocol_of (field (bytes ++ rest) 0 8)) (drop 8 (bytes ++ rest)))
cut-fragment n f false bytes rest fresh part network place = same-of _ _ refl
cut-fragment n f true bytes rest fresh part network place =
    let all = bytes ++ rest in
    let size : length (drop 8 bytes) ≡ length bytes - 8 = length-drop 8 bytes in
    let end : length bytes < 12 → n < ports_end f =
    λ few. subst (λ (k : ℕ). n < f.payload_offset + (if k == 2 then 4 else 12)) (sym network) (omega (arith, place, few)) in
    elim (cases_lt (length bytes) 12) [
      | inr h ↦
          cut-as _ _ _ _ refl
          (ap (λ (k : ℕ). with_first_ports f true (protocol_of k) (drop 8 all)) (field-front bytes rest 0 8 (omega (arith, h)))
          ∙ ap (with_first_ports f true (protocol_of (field bytes 0 8))) (drop-append-le 8 bytes rest (omega (arith, h))))
          (cut-ports n f true (protocol_of (field bytes 0 8)) (drop 8 bytes) rest fresh part (λ few. end (omega (arith, few, size, h))))
      | inl cut ↦
          cut-as _ _ _ _ (ap (λ (b : Bool). ported f (b && begins_with_ports (protocol_of (field bytes 0 8))) (drop 8 bytes)) (le-false 4 (length (drop 8 bytes)) (omega (arith, size, cut)))) refl
          (lost-ports n f (drop 8 all) (nat_le 4 (length (drop 8 all)) && begins_with_ports (protocol_of (field all 0 8))) fresh part (end cut))
    ]
