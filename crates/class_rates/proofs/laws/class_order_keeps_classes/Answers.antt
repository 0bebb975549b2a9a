use Rattle.class_rates.proofs.ClassOrders.{along_law, patient_law, served_law}
use Rattle.class_rates.proofs.laws.class_order_keeps_classes.Goals as goal

pub returns-clause-along : goal.returns-clause-along
returns-clause-along c = along_law

pub returns-clause-patient : goal.returns-clause-patient
returns-clause-patient c = patient_law

pub returns-clause-served : goal.returns-clause-served
returns-clause-served c = served_law
