-- The theorem of proofs/Table.
use Rattle.bench.proofs.Table.{table_holds}
use Rattle.bench.proofs.the_bench_table_holds.Goals as goal

pub returns : goal.returns
returns c = table_holds
