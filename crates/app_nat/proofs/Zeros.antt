-- No live mapping of UDP or TCP leads to port 0.
use Rattle.std.proofs.Common.{ℕ, ◌≡◌, ◌≢◌, ◌∙◌, inl, inr, List, Some, Result, Ok, Err, IfErr, IfOk, length, sym, ap, subst}
use Rattle.std.proofs.Math.ListN.{set}
use Rattle.app_nat.proofs.Calls.{after_inbound-inside}
use Rattle.app_nat.proofs.Meaning.{chosen-leads, chosen-maps, opened-as, opened-exists}
use Rattle.app_nat.proofs.Places.{changed}
use Rattle.app_nat.proofs.Tables.{same-end}
use Rattle.app_nat.specs.Mapping.{IsOf, after_inbound}
use Rattle.app_nat.specs.State.{protocol_of}
use Rattle.app_nat.specs.Table.{HasPort, MapsTo, mapping_at, place_of}
use Rattle.app_nat.specs.declared.mapping.Ipv4Endpoint.{Ipv4Endpoint}
use Rattle.app_nat.specs.declared.mapping.Mapping.{Mapping}
use Rattle.app_nat.specs.declared.nat.Nat.{Nat}
use Rattle.app_nat.specs.declared.state.Protocol.{Protocol}
use Rattle.app_nat.specs.declared.state.Protocol.TheVariants.{Icmp}
use Rattle.app_nat.proofs.Answered.{answered-port}
use Rattle.app_nat.proofs.Faults.{message-not_zero, not-zero, transport-not_zero}
use Rattle.app_nat.specs.Errors.{message_fault}
use Rattle.app_nat.specs.Nat.{transport_fault}
use Rattle.app_nat.specs.Flows.{ComesIn, GoesOut, IsKeptOutside, LeadsToPorts, destination_of, event_of, source_of}
use Rattle.app_nat.specs.declared.translation.Rejection.{Rejection}
use Rattle.app_nat.specs.declared.translation.Rejection.TheVariants.{ZeroPort, NoMapping}
use Rattle.app_edit.specs.declared.side.Side.TheVariants.{Source}

-- a written mapping that leads to a port
written : (nat : Nat) (old new : List Mapping) (now : ℕ) (a : Protocol) (p : ℕ) (m : Mapping) (inside : Ipv4Endpoint) → HasPort nat (length old) p
    → new ≡ set old (place_of nat (length old) a p) m → IsOf inside m → (a ≢ Icmp → inside.port ≢ 0) → LeadsToPorts nat old now → LeadsToPorts nat new now
written nat old new now a p m inside here is of some ports b q e no_echo mapped =
    elim (changed nat old now a b p q m e here (subst (λ l. MapsTo nat l now b q e) is mapped)) [
      | inl was ↦ ports b q e no_echo was
      | inr there ↦ λ zero. some (λ icmp. no_echo (there.protocol ∙ icmp)) (ap (λ (x : Ipv4Endpoint). x.port) (same-end m inside e of there.leads) ∙ zero)
    ]

pub out-ports : {T : Type 0} (result : Result T Rejection) (nat : Nat) (old new : List Mapping) (now : ℕ) (before after : List ℕ)
    → IfOk result (λ _. GoesOut nat old new now before after) → IfErr result (λ _. new ≡ old) → LeadsToPorts nat old now → LeadsToPorts nat new now
out-ports (Ok v) nat old new now before after (inr e) same ports = subst (λ l. LeadsToPorts nat l now) (sym e.2) ports
out-ports (Ok v) nat old new now before after (inl g) same ports =
    let o = g.opens in
    let event = event_of g.packet in
    let inside = source_of g.packet in
    let remote = destination_of g.packet in
    written nat o.table new now (protocol_of event) g.port o.mapping inside
    (opened-exists nat old new now event inside remote g.port o) (opened-as nat old new now event inside remote g.port o)
    (chosen-leads nat old now event inside remote g.port o.table o.mapping o.chosen)
    (answered-port g.packet.kind g.packet.src_port g.answerable)
    (λ b q e no_echo maps. ports b q e no_echo (chosen-maps nat old now event inside remote g.port o.table o.mapping o.chosen b q e now maps))
out-ports (Err reason) nat old new now before after g same ports = subst (λ l. LeadsToPorts nat l now) (sym same) ports

-- a reason other than ZeroPort leaves the table
kept-table : (nat : Nat) (old new : List Mapping) (now : ℕ) (frame : List ℕ) (reason : Rejection) → IsKeptOutside nat old new now frame reason → LeadsToPorts nat old now
    → (reason ≢ ZeroPort) × (new ≡ old)
kept-table nat old new now frame reason (inl (other, inl (inl why, same))) ports = (λ is. not-zero transport_fault transport-not_zero frame (why ∙ ap Some is), same)
kept-table nat old new now frame reason (inl (other, inl (inr (is, why), same))) ports = (λ zero. let apart : NoMapping ≡ ZeroPort = sym is ∙ zero in cc, same)
kept-table nat old new now frame reason (inl (other, inr (is, why))) ports = absurd (ports _ _ _ why.no_echo why.finds.mapped why.zero)
kept-table nat old new now frame reason (inr (other, inl why, same)) ports = (λ is. not-zero (message_fault Source) (message-not_zero Source) frame (why ∙ ap Some is), same)
kept-table nat old new now frame reason (inr (other, inr (is, why), same)) ports = (λ zero. let apart : NoMapping ≡ ZeroPort = sym is ∙ zero in cc, same)

pub in-reason : {T : Type 0} (result : Result T Rejection) (nat : Nat) (old new : List Mapping) (now : ℕ) (frame : List ℕ)
    → IfErr result (IsKeptOutside nat old new now frame) → LeadsToPorts nat old now → IfErr result (λ reason. reason ≢ ZeroPort)
in-reason (Ok v) nat old new now frame why ports = tt
in-reason (Err reason) nat old new now frame why ports = (kept-table nat old new now frame reason why ports).0

pub in-table : {T : Type 0} (result : Result T Rejection) (nat : Nat) (old new : List Mapping) (now : ℕ) (frame : List ℕ)
    → IfErr result (IsKeptOutside nat old new now frame) → LeadsToPorts nat old now → IfErr result (λ _. new ≡ old)
in-table (Ok v) nat old new now frame why ports = tt
in-table (Err reason) nat old new now frame why ports = (kept-table nat old new now frame reason why ports).1

pub in-ports : {T : Type 0} (result : Result T Rejection) (nat : Nat) (old new : List Mapping) (now : ℕ) (before after : List ℕ)
    → IfOk result (λ _. ComesIn nat old new now before after) → IfErr result (IsKeptOutside nat old new now before) → LeadsToPorts nat old now → LeadsToPorts nat new now
in-ports (Ok v) nat old new now before after (inr e) why ports = subst (λ l. LeadsToPorts nat l now) (sym e.2) ports
in-ports (Ok v) nat old new now before after (inl g) why ports =
    let f = g.finds in
    let m = mapping_at nat old (protocol_of (event_of g.packet)) g.packet.dst_port in
    written nat old new now (protocol_of (event_of g.packet)) g.packet.dst_port (after_inbound nat now (event_of g.packet) (source_of g.packet) m) g.inside f.mapped.exists f.becomes
    (after_inbound-inside nat now (event_of g.packet) (source_of g.packet) m g.inside f.mapped.leads) (λ no_echo. ports _ _ g.inside no_echo f.mapped) ports
in-ports (Err reason) nat old new now before after g why ports = subst (λ l. LeadsToPorts nat l now) (sym (kept-table nat old new now before reason why ports).1) ports
