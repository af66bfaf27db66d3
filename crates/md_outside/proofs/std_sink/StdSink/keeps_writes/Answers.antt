use Rattle.md_outside.specs.StdSink.{StdTakes, sink_bytes}
use Rattle.md_outside.proofs.Passing.{moves-kept, more-kept}
use Rattle.md_outside.proofs.std_sink.StdSink.keeps_writes.Goals as goal

pub returns : goal.returns
returns g c =
    let takes = StdTakes g.W.Write.contents in record {
      writes = λ old bytes chain. moves-kept takes sink_bytes (λ s bs t step. step.2) old c.args.self.now bytes chain;
      failed = λ old bytes chain. more-kept takes sink_bytes (λ s bs t step. step.2) old chain.0 c.args.self.now bytes
          chain.1 chain.2.2;
    }
