-- The writing view of a fragment header, as the walks of all views take it. Assumes nothing.
use mathlib.Core.Path.{refl}
use mathlib.Core.List.{List}
use Prim.Native.Nat.{ℕ}
use denote.Builtin.{u8}
use denote.Ref.{MutBor}
use Rattle.net_base.proofs.Views.{View}
use Rattle.wire_ipv6.specs.Ipv6Fragment.{Writing}
use Rattle.wire_ipv6.specs.contracts.ipv6fragment.header.Ipv6FragmentView as T

-- the view type
abbrev pub view : View
view = record {
  name = (T.struct u8).name;
  D = Writing;
  buffer = λ header. header.buffer;
  make = λ buffer. record { buffer = buffer };
  eta = λ header. refl;
  beta = λ buffer. refl;
  propositions = T.the_propositions (MutBor (List ℕ));
}
