-- Reaches that are lowered to what the live mappings need.
use Rattle.std.proofs.Common.{ℕ, ◌≡◌, ◌≢◌, ◌∙◌, ◌+◌, ◌<◌, ◌≤◌, ◌⊎◌, inl, inr, List, Option, Some, None, IfNone, IfSome, length, max, refl, sym, ap, subst, arith, get_or, get_or-set_other, get_or-set_same}
use Rattle.std.proofs.lemmas.Bool.{cases_eq, cases_lt}
use Rattle.std.proofs.lemmas.List.{ext_get_or, get_or_default}
use Rattle.app_nat.proofs.Places.{place-lt}
use Rattle.app_nat.proofs.Searches.{in-all-rows, ranked}
use Rattle.app_nat.proofs.Tables.{home-port, home_mapping, noted-at, noted-keeps, noted-other, noted-own, same-end}
use Rattle.app_nat.specs.Mapping.{IsOf, inside_of, with_reach}
use Rattle.app_nat.specs.Reach.{HasMappings, IsLeastReach, IsReached, Raises, Shrinks, at_place, home_place}
use Rattle.app_nat.specs.Table.{HasPort, IsCandidate, IsTable, IsUnmapped, MapsTo, free_mapping, home_of, mapping_at, noted, place_of, row_of, rows_of}
use Rattle.app_nat.specs.declared.mapping.Ipv4Endpoint.{Ipv4Endpoint}
use Rattle.app_nat.specs.declared.mapping.Mapping.{Mapping}
use Rattle.app_nat.specs.declared.nat.Nat.{Nat}
use Rattle.app_nat.specs.declared.state.Protocol.{Protocol}
use Rattle.app_nat.specs.declared.state.Protocol.TheVariants.{Udp, Tcp, Icmp}

-- ---- tables that differ only in reaches

pub same-self : (l : List Mapping) → HasMappings l l
same-self l = record { len = refl; same = λ k. refl }

pub same-back : (a b : List Mapping) → HasMappings a b → HasMappings b a
same-back a b h = record { len = sym h.len; same = λ k. sym (ap (with_reach (at_place a k).reach) (h.same k)) }

pub same-then : (a b c : List Mapping) → HasMappings a b → HasMappings b c → HasMappings a c
same-then a b c f s = record { len = s.len ∙ f.len; same = λ k. s.same k ∙ ap (with_reach (at_place c k).reach) (f.same k) }

-- the same endpoints are mapped
pub maps-same : (nat : Nat) (a b : List Mapping) (now : ℕ) (p : Protocol) (port : ℕ) (e : Ipv4Endpoint) → HasMappings a b
    → MapsTo nat a now p port e → MapsTo nat b now p port e
maps-same nat a b now p port e h was =
    let is : mapping_at nat b p port ≡ with_reach (mapping_at nat b p port).reach (mapping_at nat a p port) =
    subst (λ n. get_or b (place_of nat n p port) free_mapping ≡ with_reach (get_or b (place_of nat n p port) free_mapping).reach (mapping_at nat a p port))
    (sym h.len) (h.same (place_of nat (length a) p port)) in
    record {
      exists = subst (λ n. HasPort nat n port) (sym h.len) was.exists;
      live = subst (λ (x : Mapping). now < x.expires) (sym is) was.live;
      leads = subst (IsOf e) (sym is) was.leads;
    }

pub reached-same : (nat : Nat) (a b : List Mapping) (now k row : ℕ) → HasMappings a b → IsReached nat a now k row → IsReached nat b now k row
reached-same nat a b now k row h r = record {
  protocol = r.protocol;
  port = r.port;
  inside = r.inside;
  maps = maps-same nat a b now r.protocol r.port r.inside h r.maps;
  elsewhere = r.elsewhere;
  is_home = subst (λ n. k ≡ home_place nat n r.protocol r.inside) (sym h.len) r.is_home;
  is_row = subst (λ n. row ≡ row_of nat n r.inside r.port) (sym h.len) r.is_row;
}

-- ---- reaches that are raised

-- by no mapping
pub raises-none : (nat : Nat) (l : List Mapping) (now : ℕ) (P : Protocol → ℕ → Type 0)
    → ((p : Protocol) (port : ℕ) (e : Ipv4Endpoint) → P p port → ¬ MapsTo nat l now p port e) → Raises nat l l now P
raises-none nat l now P none = record {
  mappings = same-self l;
  keeps = λ k. omega arith;
  most = λ p port e given maps apart. absurd (none p port e given maps);
  least = λ k. inl refl;
}

-- by some mappings and then by others
pub raises-then : (nat : Nat) (a b c : List Mapping) (now : ℕ) (P Q R : Protocol → ℕ → Type 0)
    → ((p : Protocol) (port : ℕ) → R p port → P p port ⊎ Q p port) → Raises nat a b now P → Raises nat b c now Q → Raises nat a c now R
raises-then nat a b c now P Q R covers f s = record {
  mappings = same-then a b c f.mappings s.mappings;
  keeps = λ k. let one = f.keeps k in let two = s.keeps k in omega (arith, one, two);
  most = λ p port e given maps apart. elim (covers p port given) [
    | inl first ↦
        let one = f.most p port e first maps apart in
        let two = s.keeps (home_place nat (length a) p e) in omega (arith, one, two)
    | inr second ↦
        subst (λ n. row_of nat n e port ≤ (at_place c (home_place nat n p e)).reach) f.mappings.len
        (s.most p port e second (maps-same nat a b now p port e f.mappings maps) apart)
  ];
  least = λ k. elim (s.least k) [
    | inl same ↦ elim (f.least k) [
      | inl was ↦ inl (same ∙ was)
      | inr r ↦ inr (subst (IsReached nat a now k) (sym same) r)
    ]
    | inr r ↦ inr (reached-same nat b a now k (at_place c k).reach (same-back a b f.mappings) r)
  ];
}

-- the reach at the home of a mapping that was noted
noted-reach : (nat : Nat) (old : List Mapping) (p : Protocol) (e : Ipv4Endpoint) (port : ℕ) → HasPort nat (length old) port → port ≢ e.port
    → (at_place (noted nat old p e port) (home_place nat (length old) p e)).reach
    ≡ max (at_place old (home_place nat (length old) p e)).reach (row_of nat (length old) e port)
noted-reach nat old p e port exists apart =
    let home = home_place nat (length old) p e in
    let here = place-lt nat (length old) p (home_of nat (length old) e) (home-port nat (length old) port e exists) in
    ap (λ (x : Mapping). x.reach) (ap (λ l. get_or l home free_mapping) (noted-other nat old p e port apart)
    ∙ get_or-set_same old home (home_mapping nat old p e port) free_mapping here)

-- the reach elsewhere
noted-far : (nat : Nat) (old : List Mapping) (p : Protocol) (e : Ipv4Endpoint) (port k : ℕ) → port ≢ e.port → k ≢ home_place nat (length old) p e
    → (at_place (noted nat old p e port) k).reach ≡ (at_place old k).reach
noted-far nat old p e port k apart far =
    let home = home_place nat (length old) p e in
    ap (λ (x : Mapping). x.reach) (ap (λ l. get_or l k free_mapping) (noted-other nat old p e port apart)
    ∙ get_or-set_other old home k (home_mapping nat old p e port) free_mapping far)

-- a live mapping is noted
noted-least : (nat : Nat) (old : List Mapping) (now : ℕ) (p : Protocol) (e : Ipv4Endpoint) (port k : ℕ) → MapsTo nat old now p port e
    → ((at_place (noted nat old p e port) k).reach ≡ (at_place old k).reach) ⊎ IsReached nat old now k (at_place (noted nat old p e port) k).reach
noted-least nat old now p e port k maps =
    let home = home_place nat (length old) p e in
    let row = row_of nat (length old) e port in
    elim (cases_eq port e.port) [
      | inl own ↦ inl (ap (λ l. (at_place l k).reach) (noted-own nat old p e port own))
      | inr apart ↦ elim (cases_eq k home) [
        | inr far ↦ inl (noted-far nat old p e port k apart far)
        | inl same ↦
            let at : (at_place (noted nat old p e port) k).reach ≡ max (at_place old k).reach row =
            subst (λ x. (at_place (noted nat old p e port) x).reach ≡ max (at_place old x).reach row) (sym same) (noted-reach nat old p e port maps.exists apart) in
            elim (cases_lt (at_place old k).reach row) [
              | inl more ↦ inr (record { protocol = p; port = port; inside = e; maps = maps; elsewhere = apart; is_home = same; is_row = omega (arith, at, more) })
              | inr less ↦ inl (omega (arith, at, less))
            ]
      ]
    ]

pub raises-one : (nat : Nat) (old new : List Mapping) (now : ℕ) (p : Protocol) (e : Ipv4Endpoint) (port : ℕ) → MapsTo nat old now p port e
    → new ≡ noted nat old p e port → Raises nat old new now (λ q at. (q ≡ p) × (at ≡ port))
raises-one nat old new now p e port maps is = subst (λ l. Raises nat old l now (λ q at. (q ≡ p) × (at ≡ port))) (sym is) (record {
  mappings = record { len = (noted-keeps nat old p e port maps.exists).len; same = λ k. noted-at nat old p e port k maps.exists };
  keeps = (noted-keeps nat old p e port maps.exists).reach;
  most = λ q at f here there apart.
      let there-port : MapsTo nat old now q port f = subst (λ x. MapsTo nat old now q x f) here.1 there in
      let there-both : MapsTo nat old now p port f = subst (λ x. MapsTo nat old now x port f) here.0 there-port in
      let one : f ≡ e = same-end (mapping_at nat old p port) f e there-both.leads maps.leads in
      let differ : port ≢ e.port = λ own. apart (here.1 ∙ own ∙ ap (λ (x : Ipv4Endpoint). x.port) (sym one)) in
      let reach = noted-reach nat old p e port maps.exists differ in
      let enough : row_of nat (length old) e port ≤ (at_place (noted nat old p e port) (home_place nat (length old) p e)).reach = omega (arith, reach) in
      let of-f : row_of nat (length old) f port ≤ (at_place (noted nat old p e port) (home_place nat (length old) p f)).reach =
      subst (λ x. row_of nat (length old) x port ≤ (at_place (noted nat old p e port) (home_place nat (length old) p x)).reach) (sym one) enough in
      let of-port : row_of nat (length old) f at ≤ (at_place (noted nat old p e port) (home_place nat (length old) p f)).reach =
      subst (λ x. row_of nat (length old) f x ≤ (at_place (noted nat old p e port) (home_place nat (length old) p f)).reach) (sym here.1) of-f in
      subst (λ x. row_of nat (length old) f at ≤ (at_place (noted nat old p e port) (home_place nat (length old) x f)).reach) (sym here.0) of-port;
  least = λ k. noted-least nat old now p e port k maps;
})

-- by the mapping at a port
pub raises-by : (nat : Nat) (old new : List Mapping) (now : ℕ) (p : Protocol) (port : ℕ) (d : Mapping) (e : Ipv4Endpoint) → HasPort nat (length old) port
    → e ≡ inside_of (get_or old (place_of nat (length old) p port) d) → now < (get_or old (place_of nat (length old) p port) d).expires
    → new ≡ noted nat old p e port → Raises nat old new now (λ q at. (q ≡ p) × (at ≡ port))
raises-by nat old new now p port d e exists inside live is =
    let read : get_or old (place_of nat (length old) p port) d ≡ mapping_at nat old p port =
    get_or_default old (place_of nat (length old) p port) d free_mapping (place-lt nat (length old) p port exists) in
    let of : e ≡ inside_of (mapping_at nat old p port) = inside ∙ ap inside_of read in
    raises-one nat old new now p e port (record {
      exists = exists;
      live = subst (λ (x : Mapping). now < x.expires) read live;
      leads = subst (λ x. IsOf x (mapping_at nat old p port)) (sym of) (refl, refl);
    }) is

-- by the mappings up to the next port
pub raises-next : (nat : Nat) (a b c : List Mapping) (now : ℕ) (p : Protocol) (port index : ℕ) → port ≡ nat.first_port + index
    → Raises nat a b now (λ q at. (q ≡ p) × (at < nat.first_port + index)) → Raises nat b c now (λ q at. (q ≡ p) × (at ≡ port))
    → Raises nat a c now (λ q at. (q ≡ p) × (at < nat.first_port + (index + 1)))
raises-next nat a b c now p port index is = raises-then nat a b c now (λ q at. (q ≡ p) × (at < nat.first_port + index)) (λ q at. (q ≡ p) × (at ≡ port))
    (λ q at. (q ≡ p) × (at < nat.first_port + (index + 1)))
    (λ q at given. elim (cases_lt at (nat.first_port + index)) [
      | inl lower ↦ inl (given.0, lower)
      | inr last ↦ let low = given.1 in inr (given.0, omega (arith, low, last, is))
    ])

-- ---- the least reaches

pub shrinks : (nat : Nat) (old clear new : List Mapping) (now : ℕ) (P : Protocol → ℕ → Type 0) → HasMappings old clear
    → ((k : ℕ) → (at_place clear k).reach ≡ 0) → ((p : Protocol) (port : ℕ) → P p port) → Raises nat clear new now P → Shrinks nat old new now
shrinks nat old clear new now P was zero all raised = record {
  mappings = same-then old clear new was raised.mappings;
  reach = λ k. record {
    most = λ row r.
        let c = reached-same nat old clear now k row was r in
        let most = raised.most c.protocol c.port c.inside (all c.protocol c.port) c.maps c.elsewhere in
        let here : row_of nat (length clear) c.inside c.port ≤ (at_place new k).reach =
        subst (λ x. row_of nat (length clear) c.inside c.port ≤ (at_place new x).reach) (sym c.is_home) most in
        subst (λ x. x ≤ (at_place new k).reach) (sym c.is_row) here;
    least = elim (raised.least k) [
      | inl same ↦ inl (same ∙ zero k)
      | inr r ↦ inr (reached-same nat clear old now k (at_place new k).reach (same-back old clear was) r)
    ];
  };
}

-- each protocol is one of three
each-protocol : (p : Protocol) → ((p ≡ Udp) ⊎ (p ≡ Tcp)) ⊎ (p ≡ Icmp)
each-protocol Udp = inl (inl refl)
each-protocol Tcp = inl (inr refl)
each-protocol Icmp = inr refl

pub shrinks-by : (nat : Nat) (old clear udp tcp icmp : List Mapping) (now : ℕ) → HasMappings old clear → ((k : ℕ) → (at_place clear k).reach ≡ 0)
    → Raises nat clear udp now (λ p at. p ≡ Udp) → Raises nat udp tcp now (λ p at. p ≡ Tcp) → Raises nat tcp icmp now (λ p at. p ≡ Icmp)
    → Shrinks nat old icmp now
shrinks-by nat old clear udp tcp icmp now was zero one two three =
    let Both : Protocol → ℕ → Type 0 = λ p at. (p ≡ Udp) ⊎ (p ≡ Tcp) in
    let All : Protocol → ℕ → Type 0 = λ p at. ((p ≡ Udp) ⊎ (p ≡ Tcp)) ⊎ (p ≡ Icmp) in
    let both : Raises nat clear tcp now Both = raises-then nat clear udp tcp now (λ p at. p ≡ Udp) (λ p at. p ≡ Tcp) Both (λ p at given. given) one two in
    let all : Raises nat clear icmp now All = raises-then nat clear tcp icmp now Both (λ p at. p ≡ Icmp) All (λ p at given. given) both three in
    shrinks nat old clear icmp now All was zero (λ p at. each-protocol p) all

-- an endpoint is searched for at each of its ports
shrunk-candidate : (nat : Nat) (old new : List Mapping) (now : ℕ) (p : Protocol) (port : ℕ) (e : Ipv4Endpoint) → Shrinks nat old new now
    → MapsTo nat new now p port e → IsCandidate nat new p e port
shrunk-candidate nat old new now p port e s maps = elim (cases_eq port e.port) [
  | inl own ↦ inl own
  | inr apart ↦
      let len = length new in
      let home = home_place nat len p e in
      let there : IsReached nat new now home (row_of nat len e port) =
      record { protocol = p; port = port; inside = e; maps = maps; elsewhere = apart; is_home = refl; is_row = refl } in
      let most = (s.reach home).most (row_of nat len e port) (reached-same nat new old now home (row_of nat len e port) (same-back old new s.mappings) there) in
      let within = in-all-rows nat len e port in
      inr (ranked nat len e (rows_of nat new p e) port maps.exists (omega (arith, most, within)))
]

pub shrunk-table : (nat : Nat) (old new : List Mapping) (now : ℕ) → Shrinks nat old new now → IsTable nat old now → IsTable nat new now
shrunk-table nat old new now s table =
    let back = same-back old new s.mappings in
    record {
      placed = λ p port e maps. shrunk-candidate nat old new now p port e s maps;
      apart = λ p port other e first second. table.apart p port other e (maps-same nat new old now p port e back first) (maps-same nat new old now p other e back second);
    }

-- ---- what stays

-- an endpoint has one port, whatever the reaches are
pub ports-stay : (nat : Nat) (old new : List Mapping) (now : ℕ) (p : Protocol) (e : Ipv4Endpoint) (a b : Option ℕ) → Shrinks nat old new now → IsTable nat old now
    → IfSome a (λ port. MapsTo nat old now p port e) → IfNone a (IsUnmapped nat old now p e)
    → IfSome b (λ port. MapsTo nat new now p port e) → IfNone b (IsUnmapped nat new now p e) → a ≡ b
ports-stay nat old new now p e None None s table was none is unmapped = refl
ports-stay nat old new now p e None (Some y) s table was none is unmapped =
    let before = maps-same nat new old now p y e (same-back old new s.mappings) is in
    absurd (none y (table.placed p y e before) before)
ports-stay nat old new now p e (Some x) None s table was none is unmapped =
    let after = maps-same nat old new now p x e s.mappings was in
    absurd (unmapped x (shrunk-candidate nat old new now p x e s after) after)
ports-stay nat old new now p e (Some x) (Some y) s table was none is unmapped =
    ap Some (table.apart p x y e was (maps-same nat new old now p y e (same-back old new s.mappings) is))

-- a place has one least reach
reach-once : (nat : Nat) (l : List Mapping) (now k a b : ℕ) → IsLeastReach nat l now k a → IsLeastReach nat l now k b → a ≡ b
reach-once nat l now k a b first second = elim first.least [
  | inl none ↦ elim second.least [
    | inl zero ↦ none ∙ sym zero
    | inr there ↦ let most = first.most b there in omega (arith, none, most)
  ]
  | inr here ↦
      let least = second.most a here in
      elim second.least [
        | inl zero ↦ omega (arith, least, zero)
        | inr there ↦ let most = first.most b there in omega (arith, least, most)
      ]
]

pub shrinks-once : (nat : Nat) (old new other : List Mapping) (now : ℕ) → Shrinks nat old new now → Shrinks nat old other now → new ≡ other
shrinks-once nat old new other now s t =
    ext_get_or free_mapping new other (s.mappings.len ∙ sym t.mappings.len)
    (λ k low. s.mappings.same k ∙ ap (λ r. with_reach r (at_place old k)) (reach-once nat old now k (at_place new k).reach (at_place other k).reach (s.reach k) (t.reach k))
    ∙ sym (t.mappings.same k))
