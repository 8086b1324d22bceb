use Rattle.std.proofs.Common.{refl}
use Rattle.mdc.proofs.play.run_command.Goals as goal

pub returns-in-Create-clause-answers : goal.returns-in-Create-clause-answers
returns-in-Create-clause-answers g c = rw c.in-Create.is (record {
  end = c.create_images.result;
  answers = c.create_images.ensures.answers;
  is = c.command_status.ensures;
  source = refl;
})

pub returns-in-Show-clause-answers : goal.returns-in-Show-clause-answers
returns-in-Show-clause-answers g c = rw c.in-Show.is (record {
  end = c.show_images.result;
  answers = c.show_images.ensures.answers;
  is = c.command_status-in-Show.ensures;
  source = refl;
})

pub returns-in-Upgrade-clause-answers : goal.returns-in-Upgrade-clause-answers
returns-in-Upgrade-clause-answers g c = rw c.in-Upgrade.is (record {
  end = c.upgrade_images.result;
  answers = c.upgrade_images.ensures.answers;
  is = c.command_status-in-Upgrade.ensures;
  source = refl;
})
