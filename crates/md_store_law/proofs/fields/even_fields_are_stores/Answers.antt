use Rattle.md_store_law.proofs.EvenFields.{even_fields_are_stores}
use Rattle.md_store_law.proofs.fields.even_fields_are_stores.Goals as goal

pub returns : goal.returns
returns c = even_fields_are_stores
