use Rattle.c_exports.proofs.read_calls.lk_find_tcp_options.Goals as goal

pub returns-else-read_tcp_options : goal.returns-else-read_tcp_options
returns-else-read_tcp_options c = rw (c.if-read_tcp_options.false, c.within.ensures.value) at c.read_tcp_options.ensures
