-- A NAT with a table lets a frame through in one way, or rejects it for one reason.
use Rattle.std.proofs.Common.{ℕ, ◌≡◌, ◌∙◌, List, Option, None, Some, Result, Ok, Err, IfErr, IfNone, IfOk, IfSome, OnErr, OnOk, inr, ap, refl, subst, subst₂, sym}
use Rattle.std.specs.Bool.{⊤}
use Rattle.app_nat.proofs.FlowsOnce.{end-once, in-once, in-unkept, inside-once, out-once, out-unkept, outside-once, packet-once, packet-unrejected, rejected-once}
use Rattle.app_nat.proofs.Meaning.{port_once, room, table_once}
use Rattle.app_nat.proofs.NatOnce.{translated-unrejected, untranslated-once}
use Rattle.app_nat.specs.Flows.{ComesIn, GoesOut, IsKeptInside, IsKeptOutside}
use Rattle.app_nat.specs.Nat.{IsPacket, IsRejected, IsTranslated, IsUntranslated, RejectsPort}
use Rattle.app_nat.specs.State.{protocol_of}
use Rattle.app_nat.specs.Table.{Finds, IsFull, IsTable, IsUnmapped, MapsTo, Opens}
use Rattle.app_nat.specs.declared.Event.{Event}
use Rattle.app_nat.specs.declared.Ipv4Endpoint.{Ipv4Endpoint}
use Rattle.app_nat.specs.declared.Mapping.{Mapping}
use Rattle.app_nat.specs.declared.Nat.{Nat}
use Rattle.app_nat.specs.declared.Packet.{Packet}
use Rattle.app_nat.specs.declared.Protocol.{Protocol}
use Rattle.app_nat.specs.declared.Rejection.{Rejection}
use Rattle.app_nat.specs.declared.Rejection.TheVariants.{ZeroPort}
use Rattle.app_edit.specs.declared.Side.{Side}

-- ---- what two calls return

pub record IsSame {R : Type 0} (new other : List Mapping) (after next : List ℕ) (a b : R) : Type 0 where
  pub returned : a ≡ b
  pub table : new ≡ other
  pub frame : after ≡ next

out-results : (nat : Nat) (old same new other : List Mapping) (now : ℕ) (before copy after next : List ℕ) (a b : Result ⊤ Rejection)
    → old ≡ same → before ≡ copy → IsTable nat old now
    → OnOk a (GoesOut nat old new now before after) → IfErr a (IsKeptInside nat old now before) → OnErr a (after ≡ before) → OnErr a (new ≡ old)
    → OnOk b (GoesOut nat same other now copy next) → IfErr b (IsKeptInside nat same now copy) → OnErr b (next ≡ copy) → OnErr b (other ≡ same)
    → IsSame new other after next a b
out-results nat old same new other now before copy after next (Ok x) (Ok y) e f table out k u t also l v w =
    let s = out-once nat old new other now before after next table out (subst₂ (λ m g. GoesOut nat m other now g next) (sym e) (sym f) also) in
    record { returned = refl; table = s.0; frame = s.1 }
out-results nat old same new other now before copy after next (Ok x) (Err s) e f table out k u t also l v w =
    absurd (out-unkept nat old new now before after s table out (subst₂ (λ m g. IsKeptInside nat m now g s) (sym e) (sym f) l))
out-results nat old same new other now before copy after next (Err r) (Ok y) e f table out k u t also l v w =
    absurd (out-unkept nat old other now before next r table (subst₂ (λ m g. GoesOut nat m other now g next) (sym e) (sym f) also) k)
out-results nat old same new other now before copy after next (Err r) (Err s) e f table out k u t also l v w = record {
  returned = ap Err (inside-once nat old now before r s k (subst₂ (λ m g. IsKeptInside nat m now g s) (sym e) (sym f) l));
  table = t ∙ e ∙ sym w;
  frame = u ∙ f ∙ sym v;
}

in-results : (nat : Nat) (old same new other : List Mapping) (now : ℕ) (before copy after next : List ℕ) (a b : Result ⊤ Rejection)
    → old ≡ same → before ≡ copy
    → OnOk a (ComesIn nat old new now before after) → IfErr a (IsKeptOutside nat old new now before) → OnErr a (after ≡ before)
    → OnOk b (ComesIn nat same other now copy next) → IfErr b (IsKeptOutside nat same other now copy) → OnErr b (next ≡ copy)
    → IsSame new other after next a b
in-results nat old same new other now before copy after next (Ok x) (Ok y) e f came k u also l v =
    let s = in-once nat old new other now before after next came (subst₂ (λ m g. ComesIn nat m other now g next) (sym e) (sym f) also) in
    record { returned = refl; table = s.0; frame = s.1 }
in-results nat old same new other now before copy after next (Ok x) (Err s) e f came k u also l v =
    absurd (in-unkept nat old new other now before after s came (subst₂ (λ m g. IsKeptOutside nat m other now g s) (sym e) (sym f) l))
in-results nat old same new other now before copy after next (Err r) (Ok y) e f came k u also l v =
    absurd (in-unkept nat old other new now before next r (subst₂ (λ m g. ComesIn nat m other now g next) (sym e) (sym f) also) k)
in-results nat old same new other now before copy after next (Err r) (Err s) e f came k u also l v =
    let t = outside-once nat old new other now before r s k (subst₂ (λ m g. IsKeptOutside nat m other now g s) (sym e) (sym f) l) in
    record { returned = ap Err t.0; table = t.1; frame = u ∙ f ∙ sym v }

open-results : (nat : Nat) (old same new other : List Mapping) (now : ℕ) (event : Event) (inside remote : Ipv4Endpoint) (a b : Option ℕ) → old ≡ same
    → IfSome a (Opens nat old new now event inside remote) → IfNone a (IsFull nat old now (protocol_of event) inside) → IfNone a (new ≡ old)
    → IfSome b (Opens nat same other now event inside remote) → IfNone b (IsFull nat same now (protocol_of event) inside) → IfNone b (other ≡ same)
    → (a ≡ b) × (new ≡ other)
open-results nat old same new other now event inside remote (Some p) (Some q) e o f u also g v =
    let x = subst (λ m. Opens nat m other now event inside remote q) (sym e) also in
    (ap Some (port_once nat old new other now event inside remote p q o x), table_once nat old new other now event inside remote p q o x)
open-results nat old same new other now event inside remote (Some p) None e o f u also g v =
    absurd (room nat old new now event inside remote p o (subst (λ m. IsFull nat m now (protocol_of event) inside) (sym e) g))
open-results nat old same new other now event inside remote None (Some q) e o f u also g v =
    absurd (room nat old other now event inside remote q (subst (λ m. Opens nat m other now event inside remote q) (sym e) also) f)
open-results nat old same new other now event inside remote None None e o f u also g v = (refl, u ∙ e ∙ sym v)

find-results : (nat : Nat) (old same new other : List Mapping) (now : ℕ) (event : Event) (port : ℕ) (remote : Ipv4Endpoint) (a b : Option Ipv4Endpoint) → old ≡ same
    → IfSome a (Finds nat old new now event port remote) → IfNone a ((e : Ipv4Endpoint) → ¬ MapsTo nat old now (protocol_of event) port e) → IfNone a (new ≡ old)
    → IfSome b (Finds nat same other now event port remote) → IfNone b ((e : Ipv4Endpoint) → ¬ MapsTo nat same now (protocol_of event) port e) → IfNone b (other ≡ same)
    → (a ≡ b) × (new ≡ other)
find-results nat old same new other now event port remote (Some p) (Some q) e o f u also g v =
    let x = subst (λ m. Finds nat m other now event port remote q) (sym e) also in
    (ap Some (end-once nat old now (protocol_of event) port p q o.mapped x.mapped), o.becomes ∙ sym x.becomes)
find-results nat old same new other now event port remote (Some p) None e o f u also g v =
    absurd (g p (subst (λ m. MapsTo nat m now (protocol_of event) port p) e o.mapped))
find-results nat old same new other now event port remote None (Some q) e o f u also g v =
    absurd (f q (subst (λ m. MapsTo nat m now (protocol_of event) port q) (sym e) also.mapped))
find-results nat old same new other now event port remote None None e o f u also g v = (refl, u ∙ e ∙ sym v)

pub inside_results : (nat : Nat) (old : List Mapping) (now : ℕ) (p : Protocol) (port : ℕ) (a b : Option Ipv4Endpoint)
    → IfSome a (MapsTo nat old now p port) → IfNone a ((e : Ipv4Endpoint) → ¬ MapsTo nat old now p port e)
    → IfSome b (MapsTo nat old now p port) → IfNone b ((e : Ipv4Endpoint) → ¬ MapsTo nat old now p port e) → a ≡ b
inside_results nat old now p port (Some e) (Some f) m u n v = ap Some (end-once nat old now p port e f m n)
inside_results nat old now p port (Some e) None m u n v = absurd (v e m)
inside_results nat old now p port None (Some f) m u n v = absurd (u f n)
inside_results nat old now p port None None m u n v = refl

pub port_results : (nat : Nat) (old : List Mapping) (now : ℕ) (p : Protocol) (inside : Ipv4Endpoint) (a b : Option ℕ)
    → IfNone a (IsUnmapped nat old now p inside) → IfNone b (IsUnmapped nat old now p inside) → IsTable nat old now
    → IfSome a (λ port. MapsTo nat old now p port inside) → IfSome b (λ port. MapsTo nat old now p port inside) → a ≡ b
port_results nat old now p inside (Some x) (Some y) u v table m n = ap Some (table.apart p x y inside m n)
port_results nat old now p inside (Some x) None u v table m n = absurd (v x (table.placed p x inside m) m)
port_results nat old now p inside None (Some y) u v table m n = absurd (u y (table.placed p y inside n) n)
port_results nat old now p inside None None u v table m n = refl

translate-results : (before copy after next : List ℕ) (side : Side) (addr : List ℕ) (port : ℕ) (a b : Result ⊤ Rejection) → before ≡ copy
    → OnOk a (IsTranslated before after side addr port) → IfErr a (IsUntranslated before side port) → OnErr a (after ≡ before)
    → OnOk b (IsTranslated copy next side addr port) → IfErr b (IsUntranslated copy side port) → OnErr b (next ≡ copy)
    → (a ≡ b) × (after ≡ next)
translate-results before copy after next side addr port (Ok x) (Ok y) f t k u also l v =
    let s = subst (λ g. IsTranslated g next side addr port) (sym f) also in (refl, t.bytes ∙ sym s.bytes)
translate-results before copy after next side addr port (Ok x) (Err s) f t k u also l v =
    absurd (translated-unrejected before after side addr port s t (subst (λ g. IsUntranslated g side port s) (sym f) l))
translate-results before copy after next side addr port (Err r) (Ok y) f t k u also l v =
    absurd (translated-unrejected before next side addr port r (subst (λ g. IsTranslated g next side addr port) (sym f) also) k)
translate-results before copy after next side addr port (Err r) (Err s) f t k u also l v =
    (ap Err (untranslated-once before side port r s k (subst (λ g. IsUntranslated g side port s) (sym f) l)), u ∙ f ∙ sym v)

pub parse_results : (frame : List ℕ) (a b : Result Packet Rejection) → IfOk a (IsPacket frame) → IfErr a (IsRejected frame) → IfOk b (IsPacket frame) → IfErr b (IsRejected frame)
    → a ≡ b
parse_results frame (Ok p) (Ok q) i r j s = ap Ok (packet-once frame p q i j)
parse_results frame (Ok p) (Err y) i r j s = absurd (packet-unrejected frame p y i s)
parse_results frame (Err x) (Ok q) i r j s = absurd (packet-unrejected frame q x j r)
parse_results frame (Err x) (Err y) i r j s = ap Err (rejected-once frame x y r s)

rewrite-results : (before copy after next : List ℕ) (side : Side) (addr : List ℕ) (port : ℕ) (a b : Result ⊤ Rejection) → before ≡ copy
    → OnOk a (IsTranslated before after side addr port) → IfErr a (λ r. r ≡ ZeroPort) → OnErr a (RejectsPort before side port) → OnErr a (after ≡ before)
    → OnOk b (IsTranslated copy next side addr port) → IfErr b (λ r. r ≡ ZeroPort) → OnErr b (RejectsPort copy side port) → OnErr b (next ≡ copy)
    → (a ≡ b) × (after ≡ next)
rewrite-results before copy after next side addr port (Ok x) (Ok y) f t k d u also l e v =
    let s = subst (λ g. IsTranslated g next side addr port) (sym f) also in (refl, t.bytes ∙ sym s.bytes)
rewrite-results before copy after next side addr port (Ok x) (Err s) f t k d u also l e v =
    absurd (translated-unrejected before after side addr port ZeroPort t (inr (refl, subst (λ g. RejectsPort g side port) (sym f) e)))
rewrite-results before copy after next side addr port (Err r) (Ok y) f t k d u also l e v =
    absurd (translated-unrejected before next side addr port ZeroPort (subst (λ g. IsTranslated g next side addr port) (sym f) also) (inr (refl, d)))
rewrite-results before copy after next side addr port (Err r) (Err s) f t k d u also l e v = (ap Err (k ∙ sym l), u ∙ f ∙ sym v)

-- ---- each part of it

pub out_returned : (nat : Nat) (old same new other : List Mapping) (now : ℕ) (before copy after next : List ℕ) (a b : Result ⊤ Rejection)
    → old ≡ same → before ≡ copy → IsTable nat old now
    → OnOk a (GoesOut nat old new now before after) → IfErr a (IsKeptInside nat old now before) → OnErr a (after ≡ before) → OnErr a (new ≡ old)
    → OnOk b (GoesOut nat same other now copy next) → IfErr b (IsKeptInside nat same now copy) → OnErr b (next ≡ copy) → OnErr b (other ≡ same) → a ≡ b
out_returned nat old same new other now before copy after next a b h0 h1 h2 h3 h4 h5 h6 h7 h8 h9 h10 =
    (out-results nat old same new other now before copy after next a b h0 h1 h2 h3 h4 h5 h6 h7 h8 h9 h10).returned

pub out_table : (nat : Nat) (old same new other : List Mapping) (now : ℕ) (before copy after next : List ℕ) (a b : Result ⊤ Rejection)
    → old ≡ same → before ≡ copy → IsTable nat old now
    → OnOk a (GoesOut nat old new now before after) → IfErr a (IsKeptInside nat old now before) → OnErr a (after ≡ before) → OnErr a (new ≡ old)
    → OnOk b (GoesOut nat same other now copy next) → IfErr b (IsKeptInside nat same now copy) → OnErr b (next ≡ copy) → OnErr b (other ≡ same) → new ≡ other
out_table nat old same new other now before copy after next a b h0 h1 h2 h3 h4 h5 h6 h7 h8 h9 h10 =
    (out-results nat old same new other now before copy after next a b h0 h1 h2 h3 h4 h5 h6 h7 h8 h9 h10).table

pub out_frame : (nat : Nat) (old same new other : List Mapping) (now : ℕ) (before copy after next : List ℕ) (a b : Result ⊤ Rejection)
    → old ≡ same → before ≡ copy → IsTable nat old now
    → OnOk a (GoesOut nat old new now before after) → IfErr a (IsKeptInside nat old now before) → OnErr a (after ≡ before) → OnErr a (new ≡ old)
    → OnOk b (GoesOut nat same other now copy next) → IfErr b (IsKeptInside nat same now copy) → OnErr b (next ≡ copy) → OnErr b (other ≡ same) → after ≡ next
out_frame nat old same new other now before copy after next a b h0 h1 h2 h3 h4 h5 h6 h7 h8 h9 h10 =
    (out-results nat old same new other now before copy after next a b h0 h1 h2 h3 h4 h5 h6 h7 h8 h9 h10).frame

pub in_returned : (nat : Nat) (old same new other : List Mapping) (now : ℕ) (before copy after next : List ℕ) (a b : Result ⊤ Rejection)
    → old ≡ same → before ≡ copy
    → OnOk a (ComesIn nat old new now before after) → IfErr a (IsKeptOutside nat old new now before) → OnErr a (after ≡ before)
    → OnOk b (ComesIn nat same other now copy next) → IfErr b (IsKeptOutside nat same other now copy) → OnErr b (next ≡ copy) → a ≡ b
in_returned nat old same new other now before copy after next a b h0 h1 h2 h3 h4 h5 h6 h7 =
    (in-results nat old same new other now before copy after next a b h0 h1 h2 h3 h4 h5 h6 h7).returned

pub in_table : (nat : Nat) (old same new other : List Mapping) (now : ℕ) (before copy after next : List ℕ) (a b : Result ⊤ Rejection)
    → old ≡ same → before ≡ copy
    → OnOk a (ComesIn nat old new now before after) → IfErr a (IsKeptOutside nat old new now before) → OnErr a (after ≡ before)
    → OnOk b (ComesIn nat same other now copy next) → IfErr b (IsKeptOutside nat same other now copy) → OnErr b (next ≡ copy) → new ≡ other
in_table nat old same new other now before copy after next a b h0 h1 h2 h3 h4 h5 h6 h7 =
    (in-results nat old same new other now before copy after next a b h0 h1 h2 h3 h4 h5 h6 h7).table

pub in_frame : (nat : Nat) (old same new other : List Mapping) (now : ℕ) (before copy after next : List ℕ) (a b : Result ⊤ Rejection)
    → old ≡ same → before ≡ copy
    → OnOk a (ComesIn nat old new now before after) → IfErr a (IsKeptOutside nat old new now before) → OnErr a (after ≡ before)
    → OnOk b (ComesIn nat same other now copy next) → IfErr b (IsKeptOutside nat same other now copy) → OnErr b (next ≡ copy) → after ≡ next
in_frame nat old same new other now before copy after next a b h0 h1 h2 h3 h4 h5 h6 h7 =
    (in-results nat old same new other now before copy after next a b h0 h1 h2 h3 h4 h5 h6 h7).frame

pub open_returned : (nat : Nat) (old same new other : List Mapping) (now : ℕ) (event : Event) (inside remote : Ipv4Endpoint) (a b : Option ℕ) → old ≡ same
    → IfSome a (Opens nat old new now event inside remote) → IfNone a (IsFull nat old now (protocol_of event) inside) → IfNone a (new ≡ old)
    → IfSome b (Opens nat same other now event inside remote) → IfNone b (IsFull nat same now (protocol_of event) inside) → IfNone b (other ≡ same) → a ≡ b
open_returned nat old same new other now event inside remote a b h0 h1 h2 h3 h4 h5 h6 =
    (open-results nat old same new other now event inside remote a b h0 h1 h2 h3 h4 h5 h6).0

pub open_table : (nat : Nat) (old same new other : List Mapping) (now : ℕ) (event : Event) (inside remote : Ipv4Endpoint) (a b : Option ℕ) → old ≡ same
    → IfSome a (Opens nat old new now event inside remote) → IfNone a (IsFull nat old now (protocol_of event) inside) → IfNone a (new ≡ old)
    → IfSome b (Opens nat same other now event inside remote) → IfNone b (IsFull nat same now (protocol_of event) inside) → IfNone b (other ≡ same) → new ≡ other
open_table nat old same new other now event inside remote a b h0 h1 h2 h3 h4 h5 h6 =
    (open-results nat old same new other now event inside remote a b h0 h1 h2 h3 h4 h5 h6).1

pub find_returned : (nat : Nat) (old same new other : List Mapping) (now : ℕ) (event : Event) (port : ℕ) (remote : Ipv4Endpoint) (a b : Option Ipv4Endpoint) → old ≡ same
    → IfSome a (Finds nat old new now event port remote) → IfNone a ((e : Ipv4Endpoint) → ¬ MapsTo nat old now (protocol_of event) port e) → IfNone a (new ≡ old)
    → IfSome b (Finds nat same other now event port remote) → IfNone b ((e : Ipv4Endpoint) → ¬ MapsTo nat same now (protocol_of event) port e) → IfNone b (other ≡ same) → a ≡ b
find_returned nat old same new other now event port remote a b h0 h1 h2 h3 h4 h5 h6 =
    (find-results nat old same new other now event port remote a b h0 h1 h2 h3 h4 h5 h6).0

pub find_table : (nat : Nat) (old same new other : List Mapping) (now : ℕ) (event : Event) (port : ℕ) (remote : Ipv4Endpoint) (a b : Option Ipv4Endpoint) → old ≡ same
    → IfSome a (Finds nat old new now event port remote) → IfNone a ((e : Ipv4Endpoint) → ¬ MapsTo nat old now (protocol_of event) port e) → IfNone a (new ≡ old)
    → IfSome b (Finds nat same other now event port remote) → IfNone b ((e : Ipv4Endpoint) → ¬ MapsTo nat same now (protocol_of event) port e) → IfNone b (other ≡ same) → new ≡ other
find_table nat old same new other now event port remote a b h0 h1 h2 h3 h4 h5 h6 =
    (find-results nat old same new other now event port remote a b h0 h1 h2 h3 h4 h5 h6).1

pub translate_returned : (before copy after next : List ℕ) (side : Side) (addr : List ℕ) (port : ℕ) (a b : Result ⊤ Rejection) → before ≡ copy
    → OnOk a (IsTranslated before after side addr port) → IfErr a (IsUntranslated before side port) → OnErr a (after ≡ before)
    → OnOk b (IsTranslated copy next side addr port) → IfErr b (IsUntranslated copy side port) → OnErr b (next ≡ copy) → a ≡ b
translate_returned before copy after next side addr port a b h0 h1 h2 h3 h4 h5 h6 =
    (translate-results before copy after next side addr port a b h0 h1 h2 h3 h4 h5 h6).0

pub translate_frame : (before copy after next : List ℕ) (side : Side) (addr : List ℕ) (port : ℕ) (a b : Result ⊤ Rejection) → before ≡ copy
    → OnOk a (IsTranslated before after side addr port) → IfErr a (IsUntranslated before side port) → OnErr a (after ≡ before)
    → OnOk b (IsTranslated copy next side addr port) → IfErr b (IsUntranslated copy side port) → OnErr b (next ≡ copy) → after ≡ next
translate_frame before copy after next side addr port a b h0 h1 h2 h3 h4 h5 h6 =
    (translate-results before copy after next side addr port a b h0 h1 h2 h3 h4 h5 h6).1

pub rewrite_returned : (before copy after next : List ℕ) (side : Side) (addr : List ℕ) (port : ℕ) (a b : Result ⊤ Rejection) → before ≡ copy
    → OnOk a (IsTranslated before after side addr port) → IfErr a (λ r. r ≡ ZeroPort) → OnErr a (RejectsPort before side port) → OnErr a (after ≡ before)
    → OnOk b (IsTranslated copy next side addr port) → IfErr b (λ r. r ≡ ZeroPort) → OnErr b (RejectsPort copy side port) → OnErr b (next ≡ copy) → a ≡ b
rewrite_returned before copy after next side addr port a b h0 h1 h2 h3 h4 h5 h6 h7 h8 =
    (rewrite-results before copy after next side addr port a b h0 h1 h2 h3 h4 h5 h6 h7 h8).0

pub rewrite_frame : (before copy after next : List ℕ) (side : Side) (addr : List ℕ) (port : ℕ) (a b : Result ⊤ Rejection) → before ≡ copy
    → OnOk a (IsTranslated before after side addr port) → IfErr a (λ r. r ≡ ZeroPort) → OnErr a (RejectsPort before side port) → OnErr a (after ≡ before)
    → OnOk b (IsTranslated copy next side addr port) → IfErr b (λ r. r ≡ ZeroPort) → OnErr b (RejectsPort copy side port) → OnErr b (next ≡ copy) → after ≡ next
rewrite_frame before copy after next side addr port a b h0 h1 h2 h3 h4 h5 h6 h7 h8 =
    (rewrite-results before copy after next side addr port a b h0 h1 h2 h3 h4 h5 h6 h7 h8).1
