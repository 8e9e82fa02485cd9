use Rattle.std.proofs.Common.{◌≡◌, length, rules}
use Rattle.c_icmp.proofs.Exact.{icmp-exact, icmp-frame-exact, icmp-packet-exact, mld-exact, ndisc-frame-exact}
use Rattle.c_icmp.proofs.laws.failures_are_exact_icmp.Goals as goal

pub returns : goal.returns
returns c =
    let target : length c.args.ndisc.target.octets ≡ 16 = search rules in
    let hardware : length c.args.ndisc.hardware ≡ 6 = search rules in
    record {
      message = icmp-exact;
      packet = icmp-packet-exact c.args.frame;
      frame = icmp-frame-exact c.args.frame;
      mld_report = mld-exact c.args.frame;
      ndisc_frame = ndisc-frame-exact c.args.frame c.args.ndisc target hardware;
    }
