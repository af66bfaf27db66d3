use Rattle.std.proofs.Common.{◌∙◌}
use Rattle.std.proofs.lemmas.List.{append-nil}
use Rattle.md_outside.specs.StdSource.{StdGives, source_bytes}
use Rattle.md_outside.proofs.Passing.{moves-kept, more-kept}
use Rattle.md_outside.proofs.std_source.StdSource.keeps_reads.Goals as goal

pub returns : goal.returns
returns g c =
    let gives = StdGives g.R.Read.remaining in record {
      reads = λ old bytes chain. moves-kept gives source_bytes (λ s bs t step. step.2) old c.args.self.now bytes chain;
      to_end = λ old bytes chain. more-kept gives source_bytes (λ s bs t step. step.2) old chain.0 c.args.self.now bytes
          chain.1 (chain.2.2 ∙ append-nil (source_bytes chain.0));
      failed = λ old bytes chain. more-kept gives source_bytes (λ s bs t step. step.2) old chain.0 c.args.self.now bytes
          chain.1 chain.2.2;
    }
