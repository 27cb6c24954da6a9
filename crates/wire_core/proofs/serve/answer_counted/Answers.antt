-- there was no room for a reply, and nothing was read
use Rattle.std.proofs.Common.{[], arith, refl}
use Rattle.stream_core.specs.Seen.{left_in}
use Rattle.stream_core.proofs.ReaderLemmas.{consumes_none}
use Rattle.service_core.specs.Seen.{settings_of, tables_of}
use Rattle.wire_core.proofs.Stepping.{left_out}
use Rattle.wire_core.proofs.serve.answer_counted.Goals as goal

pub returns-in-Err-clause-answered : goal.returns-in-Err-clause-answered
returns-in-Err-clause-answered g c =
    left_out (settings_of g.S.Store c.args.desk.now) c.args.moment
    (left_in g.R.Read.remaining c.args.reader.now) (left_in g.R.Read.remaining c.args.reader.now)
    (tables_of g.S.Store c.args.desk.now)

pub returns-in-Err-clause-reader : goal.returns-in-Err-clause-reader
returns-in-Err-clause-reader g c = record {
  left =
      record {
        same = refl;
        taken = (
          [],
          consumes_none (left_in g.R.Read.remaining c.args.reader.now),
          omega arith,
        );
        reads = omega arith;
      };
  tells = refl;
}
