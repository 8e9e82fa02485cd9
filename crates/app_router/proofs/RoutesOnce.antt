-- One block is chosen, and a source has one fault.
use Rattle.std.proofs.Common.{ℕ, ◌≡◌, ◌∙◌, List, Option, None, Some, inl, inr, refl, sym, arith}
use Rattle.std.proofs.lemmas.Bool.{cases_order}
use Rattle.std.proofs.lemmas.Option.{none-some, same_Some}
use Rattle.app_router.specs.Index.{IsChosenAt}
use Rattle.app_router.specs.Source.{ChecksSource}
use Rattle.app_router.specs.declared.source.SourceFault.{SourceFault}
use Rattle.app_router.specs.declared.source.SourceFault.TheVariants.{Martian, NoRoute, OtherInterface}
use Rattle.ip_wire.specs.declared.IpAddress.{IpAddress}
use Rattle.ip_wire.specs.declared.IpCidr.{IpCidr}

pub one_block : (blocks : List IpCidr) (addr : IpAddress) (i j : ℕ) → IsChosenAt blocks addr i → IsChosenAt blocks addr j → i ≡ j
one_block blocks addr i j a b = elim (cases_order i j) [
  | inl same ↦ same
  | inr (inl less) ↦ absurd (let x = b.shorter i less a.leads in let y = a.no_longer j less b.within b.leads in omega (arith, x, y))
  | inr (inr more) ↦ absurd (let x = a.shorter j more b.leads in let y = b.no_longer i more a.within a.leads in omega (arith, x, y))
]

pub one_fault : (src : IpAddress) (interface : ℕ) (back : Option ℕ) (a b : Option SourceFault) → ChecksSource src interface back a → ChecksSource src interface back b
    → a ≡ b
one_fault src interface back None None x y = refl
one_fault src interface back None (Some Martian) x y = absurd (x.0 y)
one_fault src interface back None (Some NoRoute) x y = absurd (none-some interface (sym y.1 ∙ x.1))
one_fault src interface back None (Some OtherInterface) x y = absurd (y.1.2 (same_Some y.1.0 interface (sym y.1.1 ∙ x.1)))
one_fault src interface back (Some Martian) None x y = absurd (y.0 x)
one_fault src interface back (Some Martian) (Some Martian) x y = refl
one_fault src interface back (Some Martian) (Some NoRoute) x y = absurd (y.0 x)
one_fault src interface back (Some Martian) (Some OtherInterface) x y = absurd (y.0 x)
one_fault src interface back (Some NoRoute) None x y = absurd (none-some interface (sym x.1 ∙ y.1))
one_fault src interface back (Some NoRoute) (Some Martian) x y = absurd (x.0 y)
one_fault src interface back (Some NoRoute) (Some NoRoute) x y = refl
one_fault src interface back (Some NoRoute) (Some OtherInterface) x y = absurd (none-some y.1.0 (sym x.1 ∙ y.1.1))
one_fault src interface back (Some OtherInterface) None x y = absurd (x.1.2 (same_Some x.1.0 interface (sym x.1.1 ∙ y.1)))
one_fault src interface back (Some OtherInterface) (Some Martian) x y = absurd (x.0 y)
one_fault src interface back (Some OtherInterface) (Some NoRoute) x y = absurd (none-some x.1.0 (sym y.1 ∙ x.1.1))
one_fault src interface back (Some OtherInterface) (Some OtherInterface) x y = refl
