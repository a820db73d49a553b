use Rattle.vk_report_reader.proofs.advances.advance.Goals as goal

pub returns-in-Status : goal.returns-in-Status
returns-in-Status c = rw c.in-Status.is c.at_status.ensures

pub returns-in-ItemCount : goal.returns-in-ItemCount
returns-in-ItemCount c = rw c.in-ItemCount.is c.at_item_count.ensures

pub returns-in-FaultCount : goal.returns-in-FaultCount
returns-in-FaultCount c = rw c.in-FaultCount.is c.at_fault_count.ensures

pub returns-in-Items : goal.returns-in-Items
returns-in-Items c = rw c.in-Items.is c.at_items.ensures

pub returns-in-OnlyFault : goal.returns-in-OnlyFault
returns-in-OnlyFault c = rw c.in-OnlyFault.is c.at_only_fault.ensures

pub returns-in-Faults : goal.returns-in-Faults
returns-in-Faults c = rw c.in-Faults.is c.at_faults.ensures

pub returns-in-AfterEarly : goal.returns-in-AfterEarly
returns-in-AfterEarly c = rw c.in-AfterEarly.is c.at_early.ensures

pub returns-in-Reasons : goal.returns-in-Reasons
returns-in-Reasons c = rw c.in-Reasons.is c.at_reasons.ensures
