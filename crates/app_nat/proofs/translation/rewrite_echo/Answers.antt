use Rattle.std.proofs.Common.{◌≡◌, rules, subst, sym}
use Rattle.app_nat.proofs.EchoEnds.{IsIdentified, echo-identified}
use Rattle.app_nat.proofs.Echoes.{rewrites-echo}
use Rattle.app_nat.specs.Nat.{with_echo_ident}
use Rattle.app_nat.proofs.translation.rewrite_echo.Goals as goal

pub returns-clause-reads : goal.returns-clause-reads
returns-clause-reads c t named =
    let bytes = c.args.bytes.now in
    let made = echo-identified bytes c.args.addr c.args.port c.bytes_fit.ensures c.requires.len c.ranges.port.fits in
    let new : _ ≡ with_echo_ident c.args.addr c.args.port bytes = search rules in
    rewrites-echo c.args.header bytes _ c.args.side c.args.addr c.args.port named
    (subst (λ l. IsIdentified bytes l c.args.port) (sym new) made) t
