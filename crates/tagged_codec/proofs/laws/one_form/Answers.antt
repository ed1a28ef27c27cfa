use Rattle.tagged_codec.proofs.Terms.{one_form_is}
use Rattle.tagged_codec.proofs.laws.one_form.Goals as goal

pub returns : goal.returns
returns c = one_form_is
