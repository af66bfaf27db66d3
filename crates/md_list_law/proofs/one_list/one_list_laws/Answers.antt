use Rattle.md_list_law.proofs.OneListLaws.{one_list_lawful, one_list_rises}
use Rattle.md_list_law.proofs.one_list.one_list_laws.Goals as goal

pub returns : goal.returns
returns c = record { lawful = one_list_lawful; rises = one_list_rises }
