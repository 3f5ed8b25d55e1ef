mod Legal
