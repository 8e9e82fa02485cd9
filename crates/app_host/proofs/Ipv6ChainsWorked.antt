-- Headers after an IPv6 header, by the diagrams of RFC 8200, section 4, and RFC 4302, section 2. The last one is that of
-- ICMPv6 (58) or UDP (17).
use Rattle.std.proofs.Common.{◌≤◌, [], ◌∷◌, refl, arith}
use Rattle.app_host.specs.Ipv6Chain.{LeadsNowhere, LeadsTo, ends, goes_on}
use Rattle.app_host.proofs.Ipv6Chains.{next_leads}

-- hop-by-hop options: PadN with 4 bytes
options : LeadsTo 58 (128 ∷ 0 ∷ []) 0 (58 ∷ 0 ∷ 1 ∷ 4 ∷ 0 ∷ 0 ∷ 0 ∷ 0 ∷ 128 ∷ 0 ∷ [])
options = goes_on _ _ refl (omega arith) (ends refl)

-- destination options of 16 bytes after hop-by-hop options
more_options : LeadsTo 17 (9 ∷ []) 0 (60 ∷ 0 ∷ 1 ∷ 4 ∷ 0 ∷ 0 ∷ 0 ∷ 0 ∷ 17 ∷ 1 ∷ 1 ∷ 12 ∷ 0 ∷ 0 ∷ 0 ∷ 0 ∷ 0 ∷ 0 ∷ 0 ∷ 0 ∷ 0 ∷ 0 ∷ 0 ∷ 0 ∷ 9 ∷ [])
more_options = goes_on _ _ refl (omega arith) (goes_on _ _ refl (omega arith) (ends refl))

-- an authentication header with a check value of 12 bytes: 24 bytes, which its second byte says by a 4
authentication : LeadsTo 58 (1 ∷ []) 51 (58 ∷ 4 ∷ 0 ∷ 0 ∷ 0 ∷ 0 ∷ 16 ∷ 0 ∷ 0 ∷ 0 ∷ 0 ∷ 1 ∷ 1 ∷ 2 ∷ 3 ∷ 4 ∷ 5 ∷ 6 ∷ 7 ∷ 8 ∷ 9 ∷ 10 ∷ 11 ∷ 12 ∷ 1 ∷ [])
authentication = goes_on _ _ refl (omega arith) (ends refl)

-- the first fragment, and one at offset 8
first_fragment : LeadsTo 58 (1 ∷ []) 44 (58 ∷ 255 ∷ 0 ∷ 7 ∷ 0 ∷ 0 ∷ 0 ∷ 9 ∷ 1 ∷ [])
first_fragment = goes_on _ _ refl (omega arith) (ends refl)

later_fragment : LeadsTo 58 [] 44 (58 ∷ 0 ∷ 0 ∷ 8 ∷ 0 ∷ 0 ∷ 0 ∷ 9 ∷ 128 ∷ [])
later_fragment = goes_on _ _ refl (omega arith) (ends refl)

-- routing of 16 bytes, half of which are there
cut : LeadsNowhere 43 (17 ∷ 1 ∷ 4 ∷ 0 ∷ 0 ∷ 0 ∷ 0 ∷ 0 ∷ [])
cut protocol message leads = let whole : 16 ≤ 8 = (next_leads leads refl).0 in omega (arith, whole)

-- options that begin in the first fragment
elsewhere : LeadsNowhere 44 (60 ∷ 0 ∷ 0 ∷ 8 ∷ 0 ∷ 0 ∷ 0 ∷ 9 ∷ 17 ∷ 0 ∷ 1 ∷ 4 ∷ 0 ∷ 0 ∷ 0 ∷ 0 ∷ 9 ∷ [])
elsewhere protocol message leads =
    let after : LeadsTo protocol message 60 [] = (next_leads leads refl).1 in
    let whole : 8 ≤ 0 = (next_leads after refl).0 in
    omega (arith, whole)
