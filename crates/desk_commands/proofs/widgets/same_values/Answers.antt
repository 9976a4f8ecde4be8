use Rattle.std.proofs.Common.{refl}
use Rattle.std.proofs.lemmas.Slice.Eq.{slice_eq-Decides}
use Rattle.desk_commands.proofs.AttrChanges.{value_Decides, option_Decides}
use Rattle.desk_commands.proofs.widgets.same_values.Goals as goal

pub returns : goal.returns
returns c = slice_eq-Decides (option_Decides _ (value_Decides _ (λ n m. refl) (λ t u. refl) (λ n u. refl) (λ t m. refl))) _ _ _ c.eq.ensures
